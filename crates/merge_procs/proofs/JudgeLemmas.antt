-- What refuses a call, and what it comes to once its tables are settled.
use Rattle.std.proofs.Common.{◌≡◌, refl, sym, ap, ◌∙◌, subst, ℕ, ◌≤◌, Bool, true, false, cond, not, ◌&&◌, ◌||◌, nat_cmp, nat_lt, is_lt, List, [], ◌∷◌, length, map, Option, None, Some, Ok, Err, is_some}
use Rattle.std.specs.Cmp.Lexicographic.{slice_cmp}
use Rattle.std.specs.List.{AllByRecursion, find, list_all}
use Rattle.std.specs.Option.{option_map, option_or}
use Rattle.std.proofs.lemmas.Bool.{and_parts}
use Rattle.std.proofs.lemmas.List.{length-map}
use Rattle.tuple_codec.specs.declared.addresses.Address.{Address}
use Rattle.tuple_codec.specs.declared.records.BranchRecord.{BranchRecord}
use Rattle.schema_model.specs.Limits.{is_named_within_limits, is_short_name, most_rows}
use Rattle.schema_model.specs.PlainCommits.{Commits}
use Rattle.schema_model.specs.PlainTables as plain
use Rattle.schema_model.specs.PlainTables.{IsTable, PlainDatabase, PlainTable, rises, row_item, row_items}
use Rattle.schema_model.specs.Schemas.{is_name}
use Rattle.schema_model.specs.WrittenForms.{table_address}
use Rattle.schema_model.proofs.SizeLemmas.{kept_few}
use Rattle.chunk_store.specs.Chunks.{Chunks, Extends}
use Rattle.table_root.specs.Kept.{IsKeptAt}
use Rattle.violation_lists.proofs.RecordLemmas.{there_later}
use Rattle.expr_eval.specs.Binding.{Outcome, and_then}
use Rattle.table_root.specs.Standing.{AreThere, IsReadAt, IsTableAt, TablesStand, named_tables}
use Rattle.table_root.specs.declared.records.TableEntry as entries
use Rattle.plain_writes.specs.CheckTexts.{checks}
use Rattle.plain_sql.specs.Lists.{each, unless}
use Rattle.plain_writes.specs.Violations.{first_violation, is_called}
use Rattle.plain_sessions.specs.Branching.{is_in}
use Rattle.plain_sessions.specs.Merging.{Answers, breaks_index, breaks_null, database_after, has_too_many_rows, may_settle, names_meant, resolve, table_after, takes_bad_row, unless_violated}
use Rattle.plain_sessions.specs.Records.{BranchState}
use Rattle.plain_sessions.specs.Replies.{is_refusal}
use Rattle.plain_sessions.specs.Statements.{resolve_worked}
use Rattle.root_merge.proofs.MergedLemmas.{within_named as all_within}
use Rattle.script_text.specs.declared.replies.Reply.{Reply}
use Rattle.session_state.specs.Laws.{RecordsFollow}
use Rattle.session_state.specs.Records.{RecordStands}
use Rattle.session_plan.specs.Showing.{is_plain_reply}
use Rattle.sql_procedures.specs.declared.requests.Resolution.{Resolution}
use Rattle.sql_write.specs.Putting.{AreListed}
use Rattle.sql_write.proofs.TableLemmas.{kept_read, kept_short}
use Rattle.keep_laws.proofs.ResolveLemmas.{resolved_kept}
use Rattle.plain_writes.specs.WriteLaws.{IsKept}
use Rattle.session_plan.specs.Calls.{refusal_of, status_reply}
use Rattle.merge_procs.specs.Resolving.{CanJudge, CanResolve, CanSettleEach, first_absent, first_refusal, has_name}
use Rattle.merge_procs.specs.Steps.{IsStep}
use Rattle.merge_procs.specs.declared.steps.Step.TheVariants as step
use Rattle.merge_procs.proofs.SettleLemmas.{same_name}

-- ---- names

has_is : (address : List ℕ → List ℕ) (name : List ℕ) (database : PlainDatabase) → has_name (named_tables address database) name ≡ is_in database name
has_is address name [] = refl
has_is address name (named ∷ database) = by (is_called name named) (has_is address name database) where
  by : (b : Bool) → has_name (named_tables address database) name ≡ is_in database name
      → (b || has_name (named_tables address database) name) ≡ is_some (option_map (λ (n : plain.NamedTable). n.table) (cond b (Some named) (find (is_called name) database)))
  by true e = refl
  by false e = e

then_refusal : {A B : Type 0} (o : Outcome A) (f : A → B) → refusal_of o ≡ refusal_of (and_then o (λ x. Ok (f x)))
then_refusal (Ok x) f = refl
then_refusal (Err number) f = refl

absent_is : (address : List ℕ → List ℕ) (database : PlainDatabase) (names : List (List ℕ)) → first_absent (named_tables address database) names ≡ refusal_of (each (may_settle database) names)
absent_is address database [] = refl
absent_is address database (name ∷ names) =
    ap (λ b. cond b (first_absent (named_tables address database) names) (Some 1146)) (has_is address name database) ∙ by (is_in database name) (absent_is address database names) where
      by : (b : Bool) → first_absent (named_tables address database) names ≡ refusal_of (each (may_settle database) names)
          → cond b (first_absent (named_tables address database) names) (Some 1146)
          ≡ refusal_of (and_then (unless (not b) 1146 (Ok name)) (λ y. and_then (each (may_settle database) names) (λ ys. Ok (y ∷ ys))))
      by true more = more ∙ then_refusal (each (may_settle database) names) (λ ys. name ∷ ys)
      by false more = refl

pub absent_told : (address : List ℕ → List ℕ) (tables : List entries.TableEntry) (request : Resolution) (database : PlainDatabase) (absent : Option ℕ) → tables ≡ named_tables address database
    → absent ≡ first_absent tables (names_meant request.tables) → absent ≡ refusal_of (each (may_settle database) (names_meant request.tables))
absent_told address tables request database absent listed told =
    told ∙ ap (λ (l : List entries.TableEntry). first_absent l (names_meant request.tables)) listed ∙ absent_is address database (names_meant request.tables)

-- ---- what refuses it before

some_first : (o p : Option ℕ) → is_some o ≡ true → o ≡ option_or o p
some_first None p h = absurd (cc)
some_first (Some x) p h = refl

none_so : (o : Option ℕ) → is_some o ≡ false → o ≡ None
none_so None h = refl
none_so (Some x) h = absurd (cc)

module _ (request : Resolution) (database : PlainDatabase) (absent : Option ℕ) (told : absent ≡ refusal_of (each (may_settle database) (names_meant request.tables))) where
  abbrev found : Bool → Bool → Option ℕ
  found null long = cond null (Some 1048) (cond long (Some 9010) None)

  abbrev null_found : Bool
  null_found = takes_bad_row breaks_null request database

  abbrev long_found : Bool
  long_found = takes_bad_row breaks_index request database

  pub by_absence : is_some absent ≡ true → absent ≡ first_refusal request database
  by_absence h = some_first absent (found null_found long_found) h ∙ ap (λ (o : Option ℕ). option_or o (found null_found long_found)) told

  there_none : is_some absent ≡ false → found null_found long_found ≡ first_refusal request database
  there_none h = ap (λ (o : Option ℕ). option_or o (found null_found long_found)) (sym (none_so absent h) ∙ told)

  pub by_null : (null : Bool) → is_some absent ≡ false → null ≡ null_found → null ≡ true → Some 1048 ≡ first_refusal request database
  by_null null h is holds = ap (λ b. found b long_found) (sym holds ∙ is) ∙ there_none h

  pub by_long : (null long : Bool) → is_some absent ≡ false → null ≡ null_found → null ≡ false → long ≡ long_found → long ≡ true → Some 9010 ≡ first_refusal request database
  by_long null long h is fails so holds = (λ i. found ((sym fails ∙ is) i) ((sym holds ∙ so) i)) ∙ there_none h

  pub by_none : (null long : Bool) → is_some absent ≡ false → null ≡ null_found → null ≡ false → long ≡ long_found → long ≡ false → None ≡ first_refusal request database
  by_none null long h is fails so lacks = (λ i. found ((sym fails ∙ is) i) ((sym lacks ∙ so) i)) ∙ there_none h

refused_by : {X Y : Type 0} (o : Outcome X) (a b : Bool) (final : Outcome Y) (number : ℕ) → option_or (refusal_of o) (cond a (Some 1048) (cond b (Some 9010) None)) ≡ Some number
    → and_then o (λ x. unless a 1048 (unless b 9010 final)) ≡ Err number
refused_by (Err refusal) a b final number e = let same : refusal ≡ number = cc in ap (λ (n : ℕ). Err n) same
refused_by (Ok x) true b final number e = let same : 1048 ≡ number = cc in ap (λ (n : ℕ). Err n) same
refused_by (Ok x) false true final number e = let same : 9010 ≡ number = cc in ap (λ (n : ℕ). Err n) same
refused_by (Ok x) false false final number e = absurd (cc)

fine_by : {X Y : Type 0} (o : Outcome X) (a b : Bool) (final : Outcome Y) → option_or (refusal_of o) (cond a (Some 1048) (cond b (Some 9010) None)) ≡ None
    → (and_then o (λ x. unless a 1048 (unless b 9010 final)) ≡ final) × (b ≡ false)
fine_by (Err refusal) a b final e = absurd (cc)
fine_by (Ok x) true b final e = absurd (cc)
fine_by (Ok x) false true final e = absurd (cc)
fine_by (Ok x) false false final e = (refl, refl)

abbrev outcome : Resolution → PlainDatabase → Outcome PlainDatabase
outcome request database = unless_violated (first_violation checks database (database_after request database)) (database_after request database)

pub refused_so : (request : Resolution) (state : BranchState) (number : ℕ) → Some number ≡ first_refusal request state.working → resolve_worked state (resolve request state.working) ≡ Err number
refused_so request state number e =
    ap (resolve_worked state)
    (refused_by (each (may_settle state.working) (names_meant request.tables)) (takes_bad_row breaks_null request state.working) (takes_bad_row breaks_index request state.working) (outcome request state.working) number (sym e))

pub fine_so : (request : Resolution) (database : PlainDatabase) → first_refusal request database ≡ None → (resolve request database ≡ outcome request database) × (takes_bad_row breaks_index request database ≡ false)
fine_so request database e =
    fine_by (each (may_settle database) (names_meant request.tables)) (takes_bad_row breaks_null request database) (takes_bad_row breaks_index request database) (outcome request database) e

-- ---- the tables that may be settled, and the database that they are then

pub can_settle : (address : List ℕ → List ℕ) (chunks : Chunks) (commits : Commits) (own : BranchRecord) (tables : List entries.TableEntry) (request : Resolution) (state : BranchState)
    → CanResolve address chunks commits own tables request state → CanSettleEach address chunks tables request state.working
can_settle address chunks commits own tables request state can =
    let is = can.is in
    let stands = is.stands in
    let kept = stands.working in
    record {
      there = record { stand = (let at = kept.stands in at.tables); listed = is.listed };
      within = all_within state.working (and_parts _ (list_all is_named_within_limits state.working) kept.within).1;
      short = (fine_so request state.working can.fine).1;
    }

module _ (f : plain.NamedTable → plain.NamedTable) (same : (named : plain.NamedTable) → (f named).name ≡ named.name) where
  mapped_names : (p : List ℕ → Bool) (database : PlainDatabase) → list_all (λ (named : plain.NamedTable). p named.name) (map f database) ≡ list_all (λ (named : plain.NamedTable). p named.name) database
  mapped_names p [] = refl
  mapped_names p (named ∷ database) = λ i. p (same named i) && mapped_names p database i

  mapped_rise : (database : PlainDatabase) → rises (λ (a b : plain.NamedTable). slice_cmp nat_cmp a.name b.name) (map f database) ≡ rises (λ (a b : plain.NamedTable). slice_cmp nat_cmp a.name b.name) database
  mapped_rise [] = refl
  mapped_rise (named ∷ []) = refl
  mapped_rise (named ∷ next ∷ database) = λ i. is_lt (slice_cmp nat_cmp (same named i) (same next i)) && mapped_rise (next ∷ database) i

tables_of : (address : List ℕ → List ℕ) (chunks : Chunks) (database : PlainDatabase) → AllByRecursion (λ (named : plain.NamedTable). IsTableAt address chunks (table_address address named.table) named.table) database
    → AllByRecursion (λ (named : plain.NamedTable). IsTable named.table) database
tables_of address chunks [] h = tt
tables_of address chunks (named ∷ database) h = ((let at = h.0 in at.is_table), tables_of address chunks database h.1)

pub listed_after : (address : List ℕ → List ℕ) (old new : Chunks) (k : List ℕ) (made : List entries.TableEntry) (request : Resolution) (database : PlainDatabase) → IsKeptAt address old k database
    → AreThere address new (database_after request database) made → AreListed address new made (database_after request database)
listed_after address old new k made request database kept there =
    let at = kept.stands in
    let is = at.is_database in
    let same = same_name request in
    record {
      is_database = record {
        tables = tables_of address new (database_after request database) there.stand;
        names = mapped_names (table_after request) same is_name database ∙ is.names;
        rise = mapped_rise (table_after request) same database ∙ is.rise;
      };
      few = subst (λ (n : ℕ). n ≤ 256) (sym (length-map database (table_after request))) (kept_few database kept.within);
      short = mapped_names (table_after request) same is_short_name database ∙ kept_short database kept.within;
      stand = there.stand;
      listed = there.listed;
    }

pub can_judge : (address : List ℕ → List ℕ) (old mid new : Chunks) (commits : Commits) (own : BranchRecord) (tables made : List entries.TableEntry) (root : Address) (request : Resolution) (state : BranchState)
    → Extends mid new → Extends old new → TablesStand → RecordsFollow → CanResolve address old commits own tables request state → AreThere address mid (database_after request state.working) made
    → IsReadAt address new root.0 (database_after request state.working) → CanJudge address new commits own made root request state (database_after request state.working)
can_judge address old mid new commits own tables made root request state later more laws records can there at = record {
  stands = let is = can.is in records.later address old new commits commits own state more (λ k known. known) is.stands;
  there = there_later address mid new later laws (database_after request state.working) made there;
  at = at;
  comes = (fine_so request state.working can.fine).0;
}

pub there_of : (address : List ℕ → List ℕ) (chunks : Chunks) (k : List ℕ) (tables : List entries.TableEntry) (database : PlainDatabase) → IsKeptAt address chunks k database → tables ≡ named_tables address database
    → AreThere address chunks database tables
there_of address chunks k tables database kept listed = record { stand = (let at = kept.stands in at.tables); listed = listed }

pub fine_found : (address : List ℕ → List ℕ) (chunks : Chunks) (commits : Commits) (own : BranchRecord) (tables : List entries.TableEntry) (request : Resolution) (state : BranchState) (refusal : Option ℕ)
    → RecordStands address chunks commits own state → tables ≡ named_tables address state.working → refusal ≡ first_refusal request state.working → refusal ≡ None
    → CanResolve address chunks commits own tables request state
fine_found address chunks commits own tables request state refusal stands listed told none = record { is = record { stands = stands; listed = listed }; fine = sym told ∙ none }

-- ---- once they stand

pub count_rows : (contents : PlainTable) (count : ℕ) → count ≡ length (row_items contents) → nat_lt most_rows count ≡ nat_lt most_rows (length contents.rows)
count_rows contents count is = ap (λ (n : ℕ). nat_lt most_rows n) (is ∙ length-map contents.rows (row_item contents.schema))

module _ (address : List ℕ → List ℕ) (chunks : Chunks) (commits : Commits) (own : BranchRecord) (made : List entries.TableEntry) (root : Address) (request : Resolution) (state : BranchState) (after : PlainDatabase)
    (can : CanJudge address chunks commits own made root request state after) where
  pub before_at : IsReadAt address chunks own.working.0 state.working
  before_at = let stands = can.stands in kept_read address chunks own.working.0 state.working stands.working

  pub violated_so : (violated : Option ℕ) (number : ℕ) → violated ≡ first_violation checks state.working after → violated ≡ Some number → resolve_worked state (resolve request state.working) ≡ Err number
  violated_so violated number told is = ap (resolve_worked state) (can.comes ∙ ap (λ (o : Option ℕ). unless_violated o after) (sym told ∙ is))

  pub many_so : (violated : Option ℕ) (many : Bool) → violated ≡ first_violation checks state.working after → violated ≡ None → many ≡ has_too_many_rows after → many ≡ true
      → resolve_worked state (resolve request state.working) ≡ Err 9010
  many_so violated many told is counted holds =
      ap (resolve_worked state) (can.comes ∙ ap (λ (o : Option ℕ). unless_violated o after) (sym told ∙ is) ∙ ap (λ b. unless b 9010 (Ok after)) (sym counted ∙ holds))

  pub made_so : (violated : Option ℕ) (many : Bool) (rec : BranchRecord) (reply : Reply) → violated ≡ first_violation checks state.working after → violated ≡ None → many ≡ has_too_many_rows after → many ≡ false
      → rec ≡ record own { working = root } → reply ≡ status_reply
      → IsStep address chunks commits (step.Made (record { rec = rec; reply = reply })) (resolve_worked state (resolve request state.working))
  made_so violated many rec reply told is counted lacks rec_is reply_is =
      let comes : resolve request state.working ≡ Ok after = can.comes ∙ ap (λ (o : Option ℕ). unless_violated o after) (sym told ∙ is) ∙ ap (λ b. unless b 9010 (Ok after)) (sym counted ∙ lacks) in
      let stands = can.stands in
      let working = stands.working in
      let at = working.stands in
      let kept : IsKept after = resolved_kept request state.working after (record { is_database = at.is_database; within = working.within }) comes in
      record {
        own = record state { working = after };
        is = ap (resolve_worked state) comes ∙ ap (λ (r : Reply). Ok (Answers r (record state { working = after }))) (sym reply_is);
        plain = ap is_plain_reply reply_is;
        well = ap is_refusal reply_is;
        stands = subst (λ (r : BranchRecord). RecordStands address chunks commits r (record state { working = after })) (sym rec_is) (record {
          head = stands.head;
          working = record { stands = (let there = can.at in there.stands); within = kept.within };
          staged = stands.staged;
          merging = stands.merging;
          head_known = stands.head_known;
          merging_known = stands.merging_known;
        });
      }
