-- The commit that a decision makes.
use Rattle.std.proofs.Common.{◌≡◌, sym, ap, ◌∙◌, subst, ℕ, suc, ◌+◌, ◌<◌, ◌^◌, ℤ, pos, ◌≤◌, ◌≤ℤ◌, true, length, nat_lt, List, [], ◌∷◌, map, Option, None, Some, arith}
use Rattle.std.specs.Prelude.{if◌then◌else◌}
use Rattle.std.specs.Option.{option_map_or, option_to_list}
use Rattle.std.proofs.lemmas.Bool.{ltb-false}
use Rattle.tuple_codec.proofs.Truths.{two}
use Rattle.tuple_codec.specs.declared.addresses.Address.{Address}
use Rattle.tuple_codec.specs.declared.records.BranchRecord.{BranchRecord}
use Rattle.chunk_store.specs.Drafts.{DraftParts}
use Rattle.std.proofs.lemmas.List.{length-map}
use Rattle.tuple_codec.specs.Rows.{fits_bits}
use Rattle.commit_graph.specs.Commits.{KeepsLimits, parts_of}
use Rattle.commit_graph.specs.declared.commits.CommitRecord.{CommitRecord}
use Rattle.schema_model.specs.PlainCommits.{Commits, commit_parts, greatest, height_of, is_known}
use Rattle.plain_sessions.specs.Records.{BranchState, commit_on}
use Rattle.root_merge.specs.States.{bytes_of}
use Rattle.session_plan.specs.Committing.{CanCommit, parents_on}

greatest_one : (h : ℕ) → h ≡ greatest (h ∷ [])
greatest_one h = two (nat_lt 0 h)
    (λ e. sym (ap (λ b. if b then h else 0) e))
    (λ e. let least : h ≤ 0 = ltb-false 0 h e in
    let none : h ≡ 0 = omega (arith, least) in none ∙ sym (ap (λ b. if b then h else 0) e))

one_more : (n : ℕ) → n + 1 ≡ suc n
one_more n = omega arith

module _ (address : List ℕ → List ℕ) (d : DraftParts) (rec : BranchRecord) (present : Address) (commits : Commits) (state : BranchState) (can : CanCommit address d rec present commits state) where
  merging_is : (found : Option Address) → rec.merging ≡ found → state.merging ≡ bytes_of found
  merging_is found is = let stands = can.stands in sym stands.merging ∙ ap bytes_of is

  pub other_known : (other : Address) → rec.merging ≡ Some other → is_known commits other.0 ≡ true
  other_known other is = sym (ap (λ (m : Option (List ℕ)). option_map_or (is_known commits) m true) (merging_is (Some other) is)) ∙ can.merging_known

  abbrev over : Option (List ℕ) → ℕ
  over m = greatest (map (height_of commits) (present.0 ∷ option_to_list m))

  pub alone_height : (first : ℕ) → rec.merging ≡ None → first ≡ height_of commits present.0 → first ≡ greatest (map (height_of commits) (parents_on present state))
  alone_height first none is = is ∙ greatest_one (height_of commits present.0) ∙ sym (ap over (merging_is None none))

  pub both_height : (other : Address) (first second found : ℕ) → rec.merging ≡ Some other → first ≡ height_of commits present.0 → second ≡ height_of commits other.0
      → found ≡ greatest (first ∷ second ∷ []) → found ≡ greatest (map (height_of commits) (parents_on present state))
  both_height other first second found some a b is = is ∙ (λ i. greatest (a i ∷ b i ∷ [])) ∙ sym (ap over (merging_is (Some other) some))

  parents_are : present.0 ∷ option_to_list (bytes_of rec.merging) ≡ parents_on present state
  parents_are = let stands = can.stands in ap (λ (m : Option (List ℕ)). present.0 ∷ option_to_list m) stands.merging

  pub made_as : (epoch : ℤ) (made : CommitRecord) (greatest_is : ℕ) (committer message : List ℕ) → made.root ≡ rec.staged → map (λ (k : Address). k.0) made.parents ≡ present.0 ∷ option_to_list (bytes_of rec.merging)
      → made.height ≡ greatest_is + 1 → greatest_is ≡ greatest (map (height_of commits) (parents_on present state)) → made.date ≡ epoch → made.committer ≡ committer → made.message ≡ message
      → parts_of made ≡ commit_parts address (commit_on commits epoch committer state.staged (parents_on present state) message)
  made_as epoch made most committer message root parents height told date by says =
      let stands = can.stands in
      let staged = stands.staged in
      let at = staged.stands in
      λ i. record {
        root = (ap (λ (k : Address). k.0) root ∙ sym at.named) i;
        parents = (parents ∙ parents_are) i;
        height = (height ∙ one_more most ∙ ap suc told) i;
        date = date i;
        committer = by i;
        message = says i;
      }

few_so : (made : CommitRecord) → length made.parents ≤ 2 → length (map (λ (k : Address). k.0) made.parents) ≤ 2
few_so made few = subst (λ (n : ℕ). n ≤ 2) (sym (length-map made.parents (λ (k : Address). k.0))) few

pub limits_of : (made : CommitRecord) → length made.parents ≤ 2 → made.height < 2 ^ 64 → pos 0 ≤ℤ made.date → fits_bits 63 made.date ≡ true → length made.committer ≤ 32 → length made.message ≤ 8192
    → KeepsLimits (parts_of made)
limits_of made few height date fits committer message = record { few = few_so made few; height = height; date = date; date_fits = fits; committer = committer; message = message }
