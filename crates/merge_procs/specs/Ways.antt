-- What comes of the name that a DOLT_MERGE has.
use Rattle.std.specs.Prelude.{◌≡◌, ℕ, Bool, true, false, ◌&&◌, ◌||◌, not, is_some, [], List, Option, codes, Ok, Err, bytes_eq}
use Rattle.std.specs.List.{find}
use Rattle.std.specs.Option.{option_map}
use Rattle.chunk_store.specs.Chunks.{Chunks, chunk_bytes}
use Rattle.chunk_store.specs.Drafts.{DraftParts, chunks_of}
use Rattle.table_root.specs.Kept.{IsKeptAt}
use Rattle.expr_eval.specs.Binding.{and_then}
use Rattle.schema_model.specs.PlainCommits.{Commits, is_ancestor, is_known}
use Rattle.schema_model.specs.PlainTables.{PlainDatabase}
use Rattle.schema_model.specs.Sameness.{is_same_database}
use Rattle.session_state.specs.Commits.{CommitsAreThere}
use Rattle.sql_procedures.specs.declared.requests.MergeOf.{MergeOf}
use Rattle.sql_procedures.specs.declared.requests.MergeRequest.TheVariants as merging
use Rattle.plain_sessions.specs.Merging.{Answers, Closes, Forwarding, base_root, merge, merge_made, merge_reply, merged_with}
use Rattle.plain_sessions.specs.Records.{BranchState, root_of}
use Rattle.plain_sessions.specs.Sessions as plain
use Rattle.plain_sessions.specs.Sessions.{Head, Transaction, own_root}
use Rattle.tuple_codec.specs.declared.addresses.Address.{Address}
use Rattle.merge_procs.specs.declared.ways.Three.{Three}
use Rattle.merge_procs.specs.declared.ways.Way.{Way}
use Rattle.merge_procs.specs.declared.ways.Way.TheVariants as way

-- the databases of the base, of the head and of the other commit, which are to be merged
pub record IsThree (address : List ℕ → List ℕ) (chunks : Chunks) (t : Transaction) (request : MergeOf) (three : Three) : Type 0 where
  pub other_known : is_known t.commits three.other.0 ≡ true
  pub base : IsKeptAt address chunks three.base.0 (base_root t three.other.0)
  pub ours : IsKeptAt address chunks three.ours.0 (own_root t)
  pub theirs : IsKeptAt address chunks three.theirs.0 (root_of t.commits three.other.0)
  pub is : (p : plain.Session) → merge p t (merging.Merge request) ≡ and_then (merged_with t three.other.0) (λ merged. Ok (merge_made p t request three.other.0 merged))

-- refused; nothing to do; a fast-forward to a commit; or three databases to merge
abbrev pub IsWay : (List ℕ → List ℕ) → Chunks → Transaction → MergeOf → Way → Type 0
IsWay address chunks t request (way.Refused number) = (p : plain.Session) → merge p t (merging.Merge request) ≡ Err number
IsWay address chunks t request way.UpToDate = (p : plain.Session) → merge p t (merging.Merge request) ≡ Ok (Answers (merge_reply [] 0 0 (codes "up to date")) t.own)
IsWay address chunks t request (way.Forward other) =
    (is_known t.commits other.0 ≡ true) × ((p : plain.Session) → merge p t (merging.Merge request) ≡ Ok (Closes (Forwarding other.0)))
IsWay address chunks t request (way.Merge three) = IsThree address chunks t request three

-- ---- its parts

-- the head of the branch of this name
abbrev pub head_at : List ℕ → List Head → Option (List ℕ)
head_at name heads = option_map (λ head. head.commit) (find (λ head. bytes_eq head.name name) heads)

-- the state isn't that of a head with this database, or a merge is in progress
abbrev pub is_changed : BranchState → PlainDatabase → Bool
is_changed state database = not (is_same_database state.working database) || not (is_same_database state.staged database) || is_some state.merging

-- the commits are those of the store below the draft; the head and the other commit are among them, and the head's database stands
pub record IsOver (address : List ℕ → List ℕ) (d : DraftParts) (head root other : Address) (t : Transaction) : Type 0 where
  pub commits : CommitsAreThere address (chunk_bytes d.base) t.commits
  pub head_is : head.0 ≡ t.own.head
  pub head_known : is_known t.commits head.0 ≡ true
  pub other_known : is_known t.commits other.0 ≡ true
  pub root_stands : IsKeptAt address (chunks_of d) root.0 (own_root t)

-- the databases of two commits, beside ours
pub record AreDatabases (address : List ℕ → List ℕ) (chunks : Chunks) (commits : Commits) (base ours other : Address) (three : Three) : Type 0 where
  pub base_stands : IsKeptAt address chunks three.base.0 (root_of commits base.0)
  pub ours_is : three.ours ≡ ours
  pub theirs_stands : IsKeptAt address chunks three.theirs.0 (root_of commits other.0)
  pub other_is : three.other ≡ other

-- neither commit is the other's ancestor, or the head is, and no fast-forward is wanted
pub record IsApart (t : Transaction) (no_ff : Bool) (other : Address) : Type 0 where
  pub ahead : is_ancestor t.commits t.own.head other.0 ≡ false
  pub behind : (is_ancestor t.commits other.0 t.own.head && not no_ff) ≡ false

-- what a way that isn't refused says of the head and the other commit
abbrev pub Leads : (List ℕ → List ℕ) → Chunks → Transaction → Bool → Address → Way → Type 0
Leads address chunks t no_ff other (way.Refused number) = ⊥
Leads address chunks t no_ff other way.UpToDate = is_ancestor t.commits t.own.head other.0 ≡ true
Leads address chunks t no_ff other (way.Forward k) =
    (k ≡ other) × (is_ancestor t.commits t.own.head other.0 ≡ false) × ((is_ancestor t.commits other.0 t.own.head && not no_ff) ≡ true)
Leads address chunks t no_ff other (way.Merge three) =
    IsApart t no_ff other × (three.other ≡ other) × IsKeptAt address chunks three.base.0 (base_root t other.0) × IsKeptAt address chunks three.ours.0 (own_root t)
    × IsKeptAt address chunks three.theirs.0 (root_of t.commits other.0)
