-- Statements that write, in a transaction.
use Rattle.std.proofs.Common.{◌≡◌, refl, sym, ◌∙◌, ap, subst, inl, inr, ℕ, true, false, true≢false, List, length, Option, None, Some, Ok, Err}
use Rattle.tuple_codec.proofs.Options.{some_there as has_one}
use Rattle.tuple_codec.specs.declared.addresses.Address.{Address}
use Rattle.chunk_store.specs.Chunks.{Chunk, Chunks}
use Rattle.chunk_store.specs.Drafts.{Drafting, DraftParts, Grows, IsNamed, IsSound, Longer, chunks_of, cut_to}
use Rattle.chunk_store.specs.Kinds.{is_data}
use Rattle.chunk_store.specs.Laws.{ChunksFollow, DraftsFollow, DraftsGrow}
use Rattle.chunk_store.specs.declared.faults.PutFault.TheVariants.{Collision}
use Rattle.chunk_store.proofs.FollowLemmas.{chunks_follow}
use Rattle.table_root.specs.Kept.{IsKeptAt}
use Rattle.script_text.specs.Collisions.{TellsTruly}
use Rattle.script_text.specs.declared.replies.Reply.{Reply}
use Rattle.script_text.specs.declared.replies.Reply.TheVariants.{Refused}
use Rattle.schema_model.specs.PlainTables.{PlainDatabase}
use Rattle.sql_ast.specs.declared.statements.Write.{Write}
use Rattle.expr_eval.specs.Binding.{Outcome}
use Rattle.plain_writes.specs.Writes.{Effect}
use Rattle.plain_sessions.specs.Statements.{changed, counted_or_done, worked}
use Rattle.sql_write.specs.Writing.{Writes}
use Rattle.sql_write.specs.declared.faults.SqlFault.{SqlFault}
use Rattle.sql_write.specs.declared.faults.SqlFault.TheVariants as fault
use Rattle.sql_write.specs.declared.writing.Written.{Written}
use Rattle.script_text.specs.Output.{shortage}
use Rattle.plain_sessions.specs.Moments.{is_in_transaction}
use Rattle.plain_sessions.specs.Records.{BranchState}
use Rattle.plain_sessions.specs.Replies.{is_refusal, refused}
use Rattle.plain_sessions.specs.Sessions as plain
use Rattle.plain_sessions.specs.Sessions.{Said, Transaction, with_own, within}
use Rattle.plain_sessions.specs.declared.commands.Command.TheVariants as command
use Rattle.plain_sessions.specs.declared.commands.Work.TheVariants as work
use Rattle.session_state.specs.Commits.{HasNoCommit}
use Rattle.session_state.specs.Laws.{RecordsFollow, TransactionsFollow}
use Rattle.session_state.specs.Transactions.{StartStands}
use Rattle.session_state.specs.Standing.{SessionStands}
use Rattle.session_state.specs.declared.sessions.Session.{Session}
use Rattle.session_plan.specs.Answering.{AnswersAlone}
use Rattle.session_txn.specs.Deleting.{turn_effect}
use Rattle.session_txn.specs.Writing.{IsExcused, IsRefusedBy, TurnsRoot, written_reply}
use Rattle.session_txn.proofs.PutBackLemmas.{IsWell, reply_turned, well_kept, write_turned}
use Rattle.session_plan.proofs.AloneLemmas.{answers_due, answers_so, collides, starves, takes_none, worked_ill, worked_well}
use Rattle.session_txn.proofs.SessionLemmas.{own_kept}
use Rattle.session_plan.proofs.ShowLemmas.{due_truly}
use Rattle.session_plan.proofs.CommitLemmas.{no_commit_more}
use Rattle.session_plan.proofs.CommittingLemmas.{fault_is}
use Rattle.session_plan.proofs.LocalLemmas.{grown_by}

-- ---- the draft

done_by : (address : List ℕ → List ℕ) (old new : Drafting) (before : Address) (tables : PlainDatabase) (w : Write) (written : Written) (outcome : Outcome Effect) (reply : Reply)
    → turn_effect tables w ≡ outcome → Writes address (chunks_of new.chunks) (Ok written) outcome → reply ≡ written_reply w written.rows → Grows is_data old new
    → TurnsRoot address old new before written.root (turn_effect tables w) reply
done_by address old new before tables w written (Ok made) reply is wrote told grows = inl (record {
  made = made;
  is = is;
  reply_is = told ∙ ap (written_reply w) wrote.rows ∙ sym (reply_turned tables w made is);
  stands = wrote.root;
  grows = grows;
})
done_by address old new before tables w written (Err number) reply is wrote told grows = absurd wrote

pub turned : (address : List ℕ → List ℕ) (old new : Drafting) (before : Address) (tables : PlainDatabase) (w : Write) (written : Written) (reply : Reply)
    → Writes address (chunks_of new.chunks) (Ok written) (turn_effect tables w) → reply ≡ written_reply w written.rows → Grows is_data old new
    → TurnsRoot address old new before written.root (turn_effect tables w) reply
turned address old new before tables w written reply wrote told grows = done_by address old new before tables w written (turn_effect tables w) reply refl wrote told grows

excused_by : (address : List ℕ → List ℕ) (chunks : Chunks) (f : SqlFault) (effect : Outcome Effect) (reply : Reply) → Writes address chunks (Err f) effect → IsRefusedBy f reply
    → IsExcused effect reply
excused_by address chunks (fault.Refused number) effect reply wrote owed = inl (number, wrote, owed)
excused_by address chunks fault.Memory effect reply wrote owed = inr (inl owed)
excused_by address chunks (fault.Collision clash) effect reply wrote owed = inr (inr (clash, owed))

pub unturned : (address : List ℕ → List ℕ) (old mid new : Drafting) (before : Address) (mark : ℕ) (f : SqlFault) (effect : Outcome Effect) (reply : Reply) → DraftsFollow
    → Writes address (chunks_of mid.chunks) (Err f) effect → IsRefusedBy f reply → mark ≡ length old.chunks.own → Longer old.chunks mid.chunks → new.chunks ≡ cut_to mark mid.chunks
    → TurnsRoot address old new before before effect reply
unturned address old mid new before mark f effect reply follow wrote owed at longer cut = inr (record {
  chunks = cut ∙ ap (λ (n : ℕ). cut_to n mid.chunks) at ∙ follow.comes_back old.chunks mid.chunks longer;
  root = refl;
  excused = excused_by address (chunks_of mid.chunks) f effect reply wrote owed;
})

-- a collision that is told is one
pub refuses_truly : (address : List ℕ → List ℕ) (old mid : DraftParts) (f : SqlFault) (effect : Outcome Effect) (reply : Reply) → ChunksFollow → DraftsFollow → IsNamed address old
    → IsSound address mid → Longer old mid → Writes address (chunks_of mid) (Err f) effect → IsRefusedBy f reply → TellsTruly address reply
refuses_truly address old mid (fault.Refused number) effect reply chunks drafts named sound longer wrote owed = due_truly address 1 (Refused number) reply owed
refuses_truly address old mid fault.Memory effect reply chunks drafts named sound longer wrote owed = subst (λ (r : Reply). TellsTruly address r) (sym owed) tt
refuses_truly address old mid (fault.Collision clash) effect reply chunks drafts named sound longer wrote owed =
    subst (λ (r : Reply). TellsTruly address r) (sym owed) (fault_is address chunks drafts old mid named longer sound (Collision clash) wrote)

-- ---- the session

worked_write : (p : plain.Session) (t : Transaction) (w : Write) (outcome : Outcome Effect) → IsWell t.own.working → turn_effect t.own.working w ≡ outcome
    → worked p t (work.Change w) ≡ changed t.own outcome
unfolding worked
worked_write p t w outcome h is = write_turned t.own w h ∙ ap (changed t.own) is

abbrev at_root : {D : Type 0} → Session D → Address → Drafting → Session D
at_root session root d = record session { own = record session.own { working = root }; draft = d }

turned_stands : {D : Type 0} (address : List ℕ → List ℕ) (old : Session D) (d : Drafting) (root : Address) (p : plain.Session) (t : Transaction) (database : PlainDatabase)
    → DraftsFollow → DraftsGrow → RecordsFollow → TransactionsFollow → p.transaction ≡ Some t → SessionStands address old p → IsKeptAt address (chunks_of d.chunks) root.0 database
    → Grows is_data old.draft d → SessionStands address (at_root old root d) (within p (with_own (record t.own { working = database }) t))
turned_stands address old d root p t database drafts growth records follow there stands kept grows =
    let longer = growth.is_longer is_data old.draft d grows in
    record {
      name = stands.name;
      number = stands.number;
      branch = stands.branch;
      autocommit = stands.autocommit;
      allow = stands.allow;
      force = stands.force;
      position = stands.position;
      transaction = grown_by address old.draft.chunks d.chunks old.start old.own (record old.own { working = root }) p.transaction t (record t.own { working = database }) follow there longer
          stands.transaction
          (λ own. let later = records.later address (chunks_of old.draft.chunks) (chunks_of d.chunks) t.commits t.commits old.own t.own
          (drafts.longer_extends old.draft.chunks d.chunks longer) (λ k known. known) own in
          record { head = later.head; working = kept; staged = later.staged; merging = later.merging; head_known = later.head_known; merging_known = later.merging_known });
      named = drafts.still_named address old.draft.chunks d.chunks longer stands.named;
      plain_own = subst (λ (cs : List Chunk). HasNoCommit cs) (sym grows.own) (no_commit_more chunks_follow old.draft.chunks.own grows.more stands.plain_own grows.kinds);
      committer = stands.committer;
    }

unturned_stands : {D : Type 0} (address : List ℕ → List ℕ) (old : Session D) (d : Drafting) (root : Address) (p : plain.Session) → SessionStands address old p
    → d.chunks ≡ old.draft.chunks → root ≡ old.own.working → SessionStands address (at_root old root d) p
unturned_stands address old d root p stands same back = record {
  name = stands.name;
  number = stands.number;
  branch = stands.branch;
  autocommit = stands.autocommit;
  allow = stands.allow;
  force = stands.force;
  position = stands.position;
  transaction = subst (λ (chunks : DraftParts). StartStands address chunks old.start (record old.own { working = root }) p.transaction) (sym same)
      (subst (λ (k : Address). StartStands address old.draft.chunks old.start (record old.own { working = k }) p.transaction) (sym back) stands.transaction);
  named = subst (λ (chunks : DraftParts). IsNamed address chunks) (sym same) stands.named;
  plain_own = subst (λ (chunks : DraftParts). HasNoCommit chunks.own) (sym same) stands.plain_own;
  committer = stands.committer;
}

excused : {D : Type 0} (address : List ℕ → List ℕ) (session : Session D) (p : plain.Session) (t : Transaction) (w : Write) (reply : Reply) → IsWell t.own.working
    → p.transaction ≡ Some t → SessionStands address session p → IsExcused (turn_effect t.own.working w) reply → AnswersAlone address p (command.Data (work.Change w)) session reply
excused address session p t w reply h there stands (inl refusal) =
    answers_due address session p p (command.Data (work.Change w)) (refused refusal.0) reply
    (worked_ill p t (work.Change w) refusal.0 there (worked_write p t w (Err refusal.0) h refusal.1)) refusal.2 stands stands
excused address session p t w reply h there stands (inr (inl is)) = starves address session p (command.Data (work.Change w)) reply stands is
excused address session p t w reply h there stands (inr (inr clash)) =
    collides address session p (command.Data (work.Change w)) clash.0 reply clash.1 (takes_none p t (work.Change w) there) stands

counted_told : (count : Option ℕ) → shortage (counted_or_done count) ≡ None
counted_told None = refl
counted_told (Some rows) = refl

changes_in : {D : Type 0} (address : List ℕ → List ℕ) (old : Session D) (d : Drafting) (root : Address) (p : plain.Session) (t : Transaction) (w : Write) (reply : Reply)
    → DraftsFollow → DraftsGrow → RecordsFollow → TransactionsFollow → IsWell t.own.working → p.transaction ≡ Some t → SessionStands address old p
    → TurnsRoot address old.draft d old.own.working root (turn_effect t.own.working w) reply
    → AnswersAlone address p (command.Data (work.Change w)) (at_root old root d) reply
changes_in address old d root p t w reply drafts growth records follow h there stands (inl done) =
    let state : BranchState = record t.own { working = done.made.database } in
    answers_so address (at_root old root d) p (within p (with_own state t)) (command.Data (work.Change w)) reply
    (worked_well p t (work.Change w) (counted_or_done done.made.count) state there (worked_write p t w (Ok done.made) h done.is)
    ∙ ap (λ (r : Reply). let said : Option Said = Some (within p (with_own state t), r) in said) (sym done.reply_is))
    (ap shortage done.reply_is ∙ counted_told done.made.count)
    (turned_stands address old d root p t done.made.database drafts growth records follow there stands done.stands done.grows)
changes_in address old d root p t w reply drafts growth records follow h there stands (inr undone) =
    excused address (at_root old root d) p t w reply h there (unturned_stands address old d root p stands undone.chunks undone.root) undone.excused

pub changes : {D : Type 0} (address : List ℕ → List ℕ) (old : Session D) (d : Drafting) (root : Address) (p : plain.Session) (w : Write) (reply : Reply)
    → DraftsFollow → DraftsGrow → RecordsFollow → TransactionsFollow → is_in_transaction p ≡ true → SessionStands address old p
    → ((tables : PlainDatabase) → IsKeptAt address (chunks_of old.draft.chunks) old.own.working.0 tables → TurnsRoot address old.draft d old.own.working root (turn_effect tables w) reply)
    → AnswersAlone address p (command.Data (work.Change w)) (at_root old root d) reply
changes address old d root p w reply drafts growth records follow inside stands turns =
    let found = has_one p.transaction inside in
    let kept = own_kept address old p found.0 stands found.1 in
    changes_in address old d root p found.0 w reply drafts growth records follow (well_kept address (chunks_of old.draft.chunks) old.own.working.0 found.0.own.working kept) found.1 stands
    (turns found.0.own.working kept)

-- ---- a refusal leaves the session as it was

answers_well : (count : Option ℕ) → is_refusal (counted_or_done count) ≡ false
answers_well None = refl
answers_well (Some rows) = refl

pub left_by : (address : List ℕ → List ℕ) (old new : Drafting) (before after : Address) (effect : Outcome Effect) (reply : Reply) → TurnsRoot address old new before after effect reply
    → is_refusal reply ≡ true → (after ≡ before) × (new.chunks ≡ old.chunks)
left_by address old new before after effect reply (inl done) h = absurd (true≢false (sym h ∙ ap is_refusal done.reply_is ∙ answers_well done.made.count))
left_by address old new before after effect reply (inr undone) h = (undone.root, undone.chunks)

pub left_at : {D : Type 0} (old : Session D) (d : Drafting) (root : Address) → root ≡ old.own.working → at_root old root d ≡ record old { draft = d }
left_at old d root back = ap (λ (k : Address). at_root old k d) back
