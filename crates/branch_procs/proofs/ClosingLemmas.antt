-- What a commit stages first, and why it has no decision.
use Rattle.std.proofs.Common.{◌≡◌, refl, sym, ap, ◌∙◌, subst, ℕ, Bool, true, false, ◌&&◌, ◌||◌, not, is_some, List, [], ◌∷◌, ◌++◌, fold, length, map, Option, None, Some, Ok, Err, bytes_eq}
use Rattle.std.specs.Cmp.Lexicographic.{bytes_decides}
use Rattle.std.specs.List.{AllByRecursion}
use Rattle.std.proofs.lemmas.Bool.{leb-true}
use Rattle.tuple_codec.specs.Rows.{AreTold}
use Rattle.tuple_codec.specs.declared.addresses.Address.{Address}
use Rattle.tuple_codec.specs.declared.records.BranchRecord.{BranchRecord}
use Rattle.schema_model.specs.Limits.{most_tables}
use Rattle.schema_model.specs.PlainTables as plain
use Rattle.schema_model.specs.PlainTables.{PlainDatabase, PlainTable}
use Rattle.schema_model.specs.Sameness.{is_same_database, is_same_table}
use Rattle.schema_model.specs.WrittenForms.{table_address}
use Rattle.chunk_store.specs.Chunks.{Chunks}
use Rattle.expr_eval.specs.Binding.{Outcome, and_then}
use Rattle.table_root.specs.Standing.{IsTableAt, TablesStand, named_tables}
use Rattle.table_root.specs.declared.records.TableEntry.{TableEntry}
use Rattle.plain_sql.specs.Lists.{unless}
use Rattle.sql_procedures.specs.declared.requests.CommitRequest.{CommitRequest}
use Rattle.plain_sessions.specs.Branching as plain_branching
use Rattle.plain_sessions.specs.Branching.{is_open, names_in, says_something, staged_first, to_commit}
use Rattle.plain_sessions.specs.Merging.{Closes, Committing}
use Rattle.plain_sessions.specs.Records.{BranchState}
use Rattle.plain_sessions.specs.Sessions as plain_sessions
use Rattle.plain_sessions.specs.Statements.{commit_worked, worked}
use Rattle.plain_sessions.specs.declared.commands.Work.TheVariants as work
use Rattle.root_merge.specs.States.{bytes_of}
use Rattle.plain_writes.proofs.RowOrderLemmas.{clash, two}
use Rattle.keep_laws.proofs.PutLemmas.{taking_few}
use Rattle.branch_procs.specs.Closing.{IsVerdict}
use Rattle.branch_procs.specs.Listing.{AreFewTables}
use Rattle.branch_procs.specs.Staging.{are_same}
use Rattle.session_plan.specs.Calls.{refusal_of}
use Rattle.branch_procs.specs.Taking.{taking, taking_all}
use Rattle.branch_procs.proofs.TablesLemmas.{few_so}
use Rattle.branch_procs.proofs.TakingLemmas.{kept_of, taken_are}

-- ---- the tables that are staged

fold_on : {A B : Type 0} (f : A → B → A) (held : A) (xs ys : List B) → fold f held (xs ++ ys) ≡ fold f (fold f held xs) ys
fold_on f held [] ys = refl
fold_on f held (x ∷ xs) ys = fold_on f (f held x) xs ys

abbrev name_of : TableEntry → List ℕ
name_of named = named.name

names_named : (address : List ℕ → List ℕ) (database : PlainDatabase) → map name_of (named_tables address database) ≡ names_in database
names_named address [] = refl
names_named address (named ∷ database) = ap (λ (l : List (List ℕ)). named.name ∷ l) (names_named address database)

pub known_tables : (address : List ℕ → List ℕ) (chunks : Chunks) (working staged names head first made : List TableEntry) (w s root : PlainDatabase) → AreFewTables address chunks working w
    → AreFewTables address chunks staged s → AreFewTables address chunks names s → AreFewTables address chunks head root → first ≡ taking_all working staged (map name_of names)
    → made ≡ taking_all working first (map name_of head) → AreFewTables address chunks made (plain_branching.taking_all w s (names_in s ++ names_in root))
known_tables address chunks working staged names head first made w s root w_few s_few n_few r_few first_is made_is =
    let n = n_few.tables_are in
    let r = r_few.tables_are in
    let from = kept_of address chunks working w w_few in
    let into = kept_of address chunks staged s s_few in
    let all = names_in s ++ names_in root in
    let few = taking_few w s (names_in root) from.tables into (few_so w w_few.few) in
    record {
      tables_are = taken_are address chunks working staged made w s all w_few s_few
          (made_is ∙ ap (λ (l : List TableEntry). taking_all working l (map name_of head)) first_is
          ∙ (λ i. taking_all working (taking_all working staged ((ap (map name_of) n.listed ∙ names_named address s) i)) ((ap (map name_of) r.listed ∙ names_named address root) i))
          ∙ sym (fold_on (taking working) staged (names_in s) (names_in root)));
      few = leb-true (length (plain_branching.taking_all w s all)) most_tables few;
    }

-- the same of lists that are shown twice
pub known_told : (address : List ℕ → List ℕ) (chunks : Chunks) (working staged names head s1 s2 s3 s4 first made : List TableEntry) (w s root : PlainDatabase) → AreFewTables address chunks working w
    → AreFewTables address chunks staged s → AreFewTables address chunks names s → AreFewTables address chunks head root → s1 ≡ working → s2 ≡ names → s3 ≡ working → s4 ≡ head
    → first ≡ taking_all s1 staged (map name_of s2) → made ≡ taking_all s3 first (map name_of s4)
    → AreFewTables address chunks made (plain_branching.taking_all w s (names_in s ++ names_in root))
known_told address chunks working staged names head s1 s2 s3 s4 first made w s root wf sf nf rf e1 e2 e3 e4 first_is made_is =
    known_tables address chunks working staged names head first made w s root wf sf nf rf
    (first_is ∙ (λ i. taking_all (e1 i) staged (map name_of (e2 i)))) (made_is ∙ (λ i. taking_all (e3 i) first (map name_of (e4 i))))

-- ---- the same contents

module _ (address : List ℕ → List ℕ) (chunks : Chunks) (law : TablesStand) (told : AreTold is_same_table) where
  abbrev Stand : plain.NamedTable → Type 0
  Stand named = IsTableAt address chunks (table_address address named.table) named.table

  same_table : (a b : PlainTable) → IsTableAt address chunks (table_address address a) a → IsTableAt address chunks (table_address address b) b
      → bytes_eq (table_address address a) (table_address address b) ≡ is_same_table a b
  same_table a b first second =
      let exactly = law.exactly address chunks (table_address address a) (table_address address b) a b first second in
      two (bytes_eq (table_address address a) (table_address address b))
      (λ e. e ∙ sym ((told a b).1 (exactly.0 ((bytes_decides (table_address address a) (table_address address b)).0 e))))
      (λ e. two (is_same_table a b)
      (λ f. clash ((bytes_decides (table_address address a) (table_address address b)).1 (exactly.1 ((told a b).0 f))) e)
      (λ f. e ∙ sym f))

  same_databases : (a b : PlainDatabase) → AllByRecursion Stand a → AllByRecursion Stand b → are_same (named_tables address a) (named_tables address b) ≡ is_same_database a b
  unfolding is_same_database
  same_databases [] [] x y = refl
  same_databases [] (other ∷ others) x y = refl
  same_databases (one ∷ ones) [] x y = refl
  same_databases (one ∷ ones) (other ∷ others) x y =
      λ i. (bytes_eq one.name other.name && same_table one.table other.table x.0 y.0 i) && same_databases ones others x.1 y.1 i

  pub same_told : (ones others shown seen : List TableEntry) (a b : PlainDatabase) → shown ≡ ones → seen ≡ others → AreFewTables address chunks ones a → AreFewTables address chunks others b
      → are_same shown seen ≡ is_same_database a b
  same_told ones others shown seen a b first second few more =
      let x = few.tables_are in
      let y = more.tables_are in
      (λ i. are_same ((first ∙ x.listed) i) ((second ∙ y.listed) i)) ∙ same_databases a b x.stand y.stand

-- ---- whether it says something

abbrev staged_for : PlainDatabase → CommitRequest → BranchState → BranchState
staged_for root request state = record state { staged = staged_first root request.staging state }

or_second : (a b c : Bool) → b ≡ true → true ≡ ((a || b) || c)
or_second true b c h = refl
or_second false b c h = ap (λ (x : Bool). x || c) (sym h)

or_third : (a b c : Bool) → c ≡ true → true ≡ ((a || b) || c)
or_third true b c h = refl
or_third false true c h = refl
or_third false false c h = sym h

or_first : (a b c : Bool) → b ≡ false → c ≡ false → a ≡ ((a || b) || c)
or_first true b c h g = refl
or_first false b c h g = sym ((λ i. h i || g i))

is_merging : (merging : Option Address) (other : Option (List ℕ)) → bytes_of merging ≡ other → is_some merging ≡ is_some other
is_merging None other same = ap is_some same
is_merging (Some k) other same = ap is_some same

module _ (root : PlainDatabase) (request : CommitRequest) (own : BranchRecord) (state : BranchState) (same : bytes_of own.merging ≡ state.merging) where
  abbrev differs : Bool
  differs = not (is_same_database (staged_first root request.staging state) root)

  pub says_merging : is_some own.merging ≡ true → true ≡ says_something root request (staged_for root request state)
  says_merging h = or_second differs (is_some state.merging) request.allow_empty (sym (is_merging own.merging state.merging same) ∙ h)

  pub says_allowed : request.allow_empty ≡ true → true ≡ says_something root request (staged_for root request state)
  says_allowed h = or_third differs (is_some state.merging) request.allow_empty h

  pub says_told : (found : Bool) → is_some own.merging ≡ false → request.allow_empty ≡ false → found ≡ is_same_database (staged_first root request.staging state) root
      → not found ≡ says_something root request (staged_for root request state)
  says_told found none refused told = ap not told ∙ or_first differs (is_some state.merging) request.allow_empty (sym (is_merging own.merging state.merging same) ∙ none) refused

-- ---- the refusal

module _ (root : PlainDatabase) (request : CommitRequest) (state : BranchState) where
  abbrev refusal_by : Bool → Bool → Option ℕ
  refusal_by opened says = refusal_of (unless opened 9011 (unless (not says) 9007 (Ok (staged_for root request state))))

  pub open_refuses : (opened : Bool) → opened ≡ is_open state.working → opened ≡ true → Some 9011 ≡ refusal_of (to_commit root request state)
  open_refuses opened told holds = ap (λ (b : Bool). refusal_by b (says_something root request (staged_for root request state))) (sym holds ∙ told)

  pub decided : (opened says : Bool) → opened ≡ is_open state.working → opened ≡ false → says ≡ says_something root request (staged_for root request state) → says ≡ true
      → None ≡ refusal_of (to_commit root request state)
  decided opened says told fails said holds = λ i. refusal_by ((sym fails ∙ told) i) ((sym holds ∙ said) i)

  pub nothing_said : (opened says : Bool) → opened ≡ is_open state.working → opened ≡ false → says ≡ says_something root request (staged_for root request state) → says ≡ false
      → Some 9007 ≡ refusal_of (to_commit root request state)
  nothing_said opened says told fails said holds = λ i. refusal_by ((sym fails ∙ told) i) ((sym holds ∙ said) i)

pub verdict_of : (outcome : Outcome BranchState) (message : List ℕ) (found : Option ℕ) → found ≡ refusal_of outcome
    → IsVerdict found (and_then outcome (λ own. Ok (Closes (Committing own message))))
verdict_of (Ok own) message found is = subst (λ (o : Option ℕ). IsVerdict o (Ok (Closes (Committing own message)))) (sym is) tt
verdict_of (Err number) message found is = subst (λ (o : Option ℕ). IsVerdict o (Err number)) (sym is) refl

pub worked_commit : (p : plain_sessions.Session) (t : plain_sessions.Transaction) (request : CommitRequest) → worked p t (work.Commit request) ≡ commit_worked t request
unfolding worked
worked_commit p t request = refl
