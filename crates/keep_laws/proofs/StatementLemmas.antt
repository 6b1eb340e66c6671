-- What each database statement comes to.
use Rattle.std.proofs.Common.{◌≡◌, refl, [], ◌∷◌, Option, None, Some, Ok}
use Rattle.sql_ast.specs.declared.statements.Delete.{Delete}
use Rattle.sql_ast.specs.declared.statements.Write.{Write}
use Rattle.sql_ast.specs.declared.statements.Write.TheVariants as write
use Rattle.expr_eval.specs.Binding.{Outcome}
use Rattle.plain_sql.specs.Plans.{answer}
use Rattle.plain_schemas.specs.Statements.{write_effect}
use Rattle.keep_laws.specs.SchemaLaws.{AllKeep}
use Rattle.sql_laws.specs.Fit.{IsFit}
use Rattle.table_merge.specs.Laws.{MergesAreTables}
use Rattle.plain_sessions.specs.declared.commands.Work.{Work}
use Rattle.plain_sessions.specs.declared.commands.Work.TheVariants.{Ask, Change, Add, ResetTo, Commit, Merge, Resolve, Verify}
use Rattle.plain_sessions.specs.Branching.{add, reset_to, status, to_commit}
use Rattle.plain_sessions.specs.Fitness.{IsFitWork}
use Rattle.plain_sessions.specs.Merging.{Answers, Closes, Committing, Worked, resolve, verify}
use Rattle.plain_sessions.specs.Records.{BranchState}
use Rattle.plain_sessions.specs.Replies.{one_row, shown}
use Rattle.plain_sessions.specs.Sessions.{Session, Transaction, own_root}
use Rattle.plain_sessions.specs.Statements.{or_of_rows, staged, worked, write_worked}
use Rattle.plain_sessions.specs.SystemTables.{delete_entries, known}
use Rattle.plain_writes.proofs.OutcomeLemmas.{then_so}
use Rattle.keep_laws.specs.StateLaws.{IsKeptState, IsKeptTransaction, IsKeptWork, WorkKeeps}
use Rattle.keep_laws.proofs.EntryLemmas.{entries_kept}
use Rattle.keep_laws.proofs.MergingLemmas.{merge_kept}
use Rattle.keep_laws.proofs.ResolveLemmas.{resolved_kept}
use Rattle.keep_laws.proofs.WorkLemmas.{add_kept, changed_kept, reset_kept, root_kept, to_commit_kept, verified_kept}
use Rattle.keep_laws.proofs.TestLemmas.{if_ok, ok_has}

module _ (all : AllKeep) (law : MergesAreTables) where
  delete_kept : (own : BranchState) (delete : Delete) (w : Worked) (entries : Option (Outcome Worked)) → IsKeptState own → IsFit (write.Delete delete)
      → delete_entries own delete ≡ entries → or_of_rows own delete entries ≡ Ok w → IsKeptWork w
  delete_kept own delete w (Some entries) o fit at e = entries_kept own delete entries w o at e
  delete_kept own delete w None o fit at e = changed_kept own (write_effect own.working (write.Delete delete)) o (all own.working (write.Delete delete) o.working fit) w e

  write_kept : (own : BranchState) (one : Write) (w : Worked) → IsKeptState own → IsFit one → write_worked own one ≡ Ok w → IsKeptWork w
  write_kept own (write.Create create) w o fit e = changed_kept own (write_effect own.working (write.Create create)) o (all own.working (write.Create create) o.working fit) w e
  write_kept own (write.Drop drop) w o fit e = changed_kept own (write_effect own.working (write.Drop drop)) o (all own.working (write.Drop drop) o.working fit) w e
  write_kept own (write.Insert insert) w o fit e = changed_kept own (write_effect own.working (write.Insert insert)) o (all own.working (write.Insert insert) o.working fit) w e
  write_kept own (write.Update update) w o fit e = changed_kept own (write_effect own.working (write.Update update)) o (all own.working (write.Update update) o.working fit) w e
  write_kept own (write.Delete delete) w o fit e = delete_kept own delete w (delete_entries own delete) o fit refl e
  write_kept own (write.Alter alter) w o fit e = changed_kept own (write_effect own.working (write.Alter alter)) o (all own.working (write.Alter alter) o.working fit) w e

  staged_kept : (made : Outcome BranchState) (w : Worked) → ((state : BranchState) → made ≡ Ok state → IsKeptState state) → staged made ≡ Ok w → IsKeptWork w
  staged_kept made w keeps e =
      let state = then_so made (λ made. Ok (Answers (one_row (status ∷ [])) made)) w e in
      ok_has IsKeptWork (Answers (one_row (status ∷ [])) state.0) w (keeps state.0 state.1) state.2

  work_kept : (session : Session) (t : Transaction) (work : Work) (w : Worked) → IsKeptTransaction t → IsFitWork work → worked session t work ≡ Ok w → IsKeptWork w
  unfolding worked
  work_kept session t (Ask one) w kept fit e =
      let found = then_so (answer (known t) one) (λ answer. Ok (Answers (shown answer) t.own)) w e in ok_has IsKeptWork (Answers (shown found.0) t.own) w kept.own found.2
  work_kept session t (Change one) w kept fit e = write_kept t.own one w kept.own fit e
  work_kept session t (Add tables) w kept fit e = staged_kept (add tables t.own) w (λ state h. add_kept tables t.own state kept.own h) e
  work_kept session t (ResetTo reset) w kept fit e =
      staged_kept (reset_to (own_root t) reset t.own) w (λ state h. reset_kept (own_root t) reset t.own state (root_kept t.commits t.own.head kept.commits) kept.own h) e
  work_kept session t (Commit request) w kept fit e =
      let made = then_so (to_commit (own_root t) request t.own) (λ own. Ok (Closes (Committing own request.message))) w e in
      ok_has IsKeptWork (Closes (Committing made.0 request.message)) w (to_commit_kept (own_root t) request t.own made.0 kept.own made.1) made.2
  work_kept session t (Merge request) w kept fit e = merge_kept law session t kept request w e
  work_kept session t (Resolve request) w kept fit e =
      let own = kept.own in
      let made = then_so (resolve request t.own.working) (λ working. Ok (Answers (one_row (status ∷ [])) (record t.own { working = working }))) w e in
      ok_has IsKeptWork (Answers (one_row (status ∷ [])) (record t.own { working = made.0 })) w
      (record { working = resolved_kept request t.own.working made.0 own.working made.1; staged = own.staged }) made.2
  work_kept session t (Verify way) w kept fit e =
      let own = kept.own in ok_has IsKeptWork (verify way t.own) w (record { working = verified_kept way t.own.working own.working; staged = own.staged }) e

  pub work_keeps : WorkKeeps
  work_keeps session t work kept fit = if_ok IsKeptWork (worked session t work) (λ w e. work_kept session t work w kept fit e)
