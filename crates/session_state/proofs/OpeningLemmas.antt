-- The shared state at its opening stands in the first commit and the empty database.
use Rattle.std.proofs.Common.{◌≡◌, refl, ◌∙◌, sym, ap, subst, ℕ, ◌==◌, ◌≤◌, ℤ, pos, negsuc, Bool, true, false, cond, List, [], ◌∷◌, map, length, codes, Some, None, option_map, is_some, arith}
use Rattle.std.specs.Prelude.{bytes_eq}
use Rattle.std.specs.List.{list_all}
use Rattle.std.specs.Cmp.Lexicographic.{bytes_decides}
use Rattle.std.proofs.lemmas.Int.{ints}
use Rattle.std.proofs.lemmas.Option.{cond_some}
use Rattle.tuple_codec.specs.declared.addresses.Address.{Address}
use Rattle.tuple_codec.specs.declared.records.BranchRecord.{BranchRecord}
use Rattle.schema_model.specs.Limits.{is_database_within_limits, most_branches}
use Rattle.schema_model.specs.PlainCommits.{Commits, IsGrown, PlainCommit, commit_address, commit_parts, is_known, plain_commit_bytes, with_commit}
use Rattle.schema_model.specs.WrittenForms.{database_address, database_bytes}
use Rattle.chunk_store.specs.Chunks.{AreNamed, Chunks, IsSingle, chunk_bytes}
use Rattle.chunk_store.specs.Kinds.{is_commit}
use Rattle.chunk_store.specs.Standing.{IsThere}
use Rattle.commit_graph.specs.Commits.{IsCommit}
use Rattle.commit_graph.specs.Standing.{IsCommitThere}
use Rattle.table_root.specs.Standing.{IsDatabaseAt}
use Rattle.table_root.specs.Kept.{IsKeptAt}
use Rattle.plain_sessions.specs.Branching.{is_branch_there}
use Rattle.plain_sessions.specs.Records.{clean_at, first_commit, no_commits, opening}
use Rattle.plain_sessions.specs.StateLimits.{is_date}
use Rattle.session_state.specs.Changes.{BranchStands, Paired, Parts, StateStands, lines_rise}
use Rattle.session_state.specs.Commits.{CommitsAreThere}
use Rattle.session_state.specs.Records.{RecordStands}

was_one : {A : Type 0} (t : Bool) (x : A) → is_some (cond t (Some x) None) ≡ true → t ≡ true
was_one true x e = refl
was_one false x e = e

module _ (address : List ℕ → List ℕ) (chunks : Chunks) (there : IsThere address chunks (database_bytes address [])) where
  empty_stands : (k : List ℕ) → k ≡ database_address address [] → IsDatabaseAt address chunks k []
  empty_stands k is = record { is_database = record { tables = tt; names = refl; rise = refl }; named = sym is; there = there; tables = tt }

  empty_kept : (k : List ℕ) → k ≡ database_address address [] → IsKeptAt address chunks k []
  empty_kept k is = record { stands = empty_stands k is; within = refl }

  first_is_commit : (epoch : ℤ) → is_date epoch ≡ true → IsCommit (commit_parts address (first_commit epoch))
  first_is_commit (pos seconds) date = record {
    addresses = record { root = ap (λ n. n == 20) there.1; parents = refl };
    limits = record { few = omega arith; height = omega arith; date = omega (arith, ints); date_fits = date; committer = omega arith; message = omega arith };
  }
  first_is_commit (negsuc seconds) date = cc

  module _ (epoch : ℤ) (date : is_date epoch ≡ true) (held : IsThere address chunks (plain_commit_bytes address (first_commit epoch))) where
    abbrev first : List ℕ
    first = commit_address address (first_commit epoch)

    abbrev commits : Commits
    commits = with_commit first (first_commit epoch) no_commits

    first_there : IsCommitThere address chunks first (first_commit epoch)
    first_there = record { is_commit = first_is_commit epoch date; named = refl; there = held; database = empty_stands (database_address address []) refl }

    first_known : is_known commits first ≡ true
    first_known = ap (λ b. is_some (cond b (Some (first_commit epoch)) None)) ((bytes_decides first first).1 refl)

    each_there : (k : List ℕ) (commit : PlainCommit) → commits k ≡ Some commit → IsCommitThere address chunks k commit
    each_there k commit at =
        let is = cond_some (bytes_eq k first) (first_commit epoch) commit at in
        subst (λ (c : PlainCommit). IsCommitThere address chunks k c) is.1
        (subst (λ (j : List ℕ). IsCommitThere address chunks j (first_commit epoch)) (sym ((bytes_decides k first).0 is.0)) first_there)

    first_grown : IsGrown commits (first_commit epoch)
    first_grown = record { parents = refl; height = refl }

    first_commits : ((k bytes : List ℕ) → chunks k ≡ Some bytes → is_commit bytes ≡ true → k ≡ first) → CommitsAreThere address chunks commits
    first_commits only = record {
      stand = record { each = each_there; grown = λ k commit at. subst (IsGrown commits) (cond_some (bytes_eq k first) (first_commit epoch) commit at).1 first_grown };
      no_others = λ k bytes here is. ap (is_known commits) (only k bytes here is) ∙ first_known;
      within = λ k commit at. subst (λ (c : PlainCommit). is_database_within_limits c.database ≡ true) (cond_some (bytes_eq k first) (first_commit epoch) commit at).1 refl;
      first = (first, λ k known. (0, (known, (bytes_decides k first).0 (was_one (bytes_eq k first) (first_commit epoch) known))));
    }

    first_record : (rec : BranchRecord) → rec.head.0 ≡ first → rec.working.0 ≡ database_address address [] → rec.staged.0 ≡ database_address address [] → rec.merging ≡ None
        → RecordStands address chunks commits rec (clean_at first [])
    first_record rec head working staged merging = record {
      head = head;
      working = empty_kept rec.working.0 working;
      staged = empty_kept rec.staged.0 staged;
      merging = ap (option_map (λ (k : Address). k.0)) merging;
      head_known = first_known;
      merging_known = refl;
    }

    all_main : (names : List (List ℕ)) (others : List (List ℕ)) → list_all (is_branch_there (opening address epoch others)) (map (λ (name : List ℕ). codes "main") names) ≡ true
    all_main [] others = refl
    all_main (name ∷ names) others = all_main names others

pub opening_stands : (address : List ℕ → List ℕ) (epoch : ℤ) (names : List (List ℕ)) (parts : Parts) (rec : BranchRecord) → is_date epoch ≡ true
    → IsThere address (chunk_bytes parts.chunks) (plain_commit_bytes address (first_commit epoch)) → IsThere address (chunk_bytes parts.chunks) (database_bytes address [])
    → ((k bytes : List ℕ) → chunk_bytes parts.chunks k ≡ Some bytes → is_commit bytes ≡ true → k ≡ commit_address address (first_commit epoch))
    → AreNamed address parts.chunks → IsSingle parts.chunks
    → parts.branches ≡ record { name = codes "main"; rec = rec } ∷ [] → rec.head.0 ≡ commit_address address (first_commit epoch)
    → rec.working.0 ≡ database_address address [] → rec.staged.0 ≡ database_address address [] → rec.merging ≡ None
    → parts.places ≡ map (λ name. codes "main") names → StateStands address parts (opening address epoch names)
opening_stands address epoch names parts rec date held there only named single branches head working staged merging places =
    let chunks = chunk_bytes parts.chunks in
    let line : BranchStands address parts.chunks (opening address epoch names).commits (record { name = codes "main"; rec = rec })
    (record { name = codes "main"; state = clean_at (commit_address address (first_commit epoch)) [] }) =
    record { name = refl; form = refl; stands = first_record address chunks there epoch date held rec head working staged merging } in
    record {
      branches = subst (λ l. Paired (BranchStands address parts.chunks (opening address epoch names).commits) l (opening address epoch names).branches) (sym branches) (line, tt);
      rise = ap lines_rise branches;
      few = subst (λ n. n ≤ most_branches) (sym (ap length branches)) (omega arith);
      places = places;
      placed = all_main address chunks there epoch date held names names;
      commits = first_commits address chunks there epoch date held only;
      named = named;
      single = single;
    }
