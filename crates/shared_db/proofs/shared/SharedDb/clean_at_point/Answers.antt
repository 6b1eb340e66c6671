use Rattle.std.proofs.Common.{◌∙◌, ap, refl, sym, subst, Option, option_map, slice_get, unwrap_or, []}
use Rattle.tuple_codec.specs.declared.addresses.Address.{Address}
use Rattle.chunk_store.specs.Chunks.{chunk_bytes}
use Rattle.chunk_store.specs.Stores.{all_chunks}
use Rattle.session_state.specs.Changes.{StateStands}
use Rattle.session_state.specs.Records.{RecordStands}
use Rattle.plain_sessions.specs.Records.{clean_at, root_of}
use Rattle.shared_db.specs.Shared.{Db}
use Rattle.shared_db.specs.Stepping.{point_asked}
use Rattle.shared_db.proofs.PointLemmas.{clean_none, clean_some, has_commit, known_told, some_there, someone}
use Rattle.shared_db.proofs.shared.SharedDb.clean_at_point.Goals as goal

pub returns-in_err-commit : goal.returns-in_err-commit
returns-in_err-commit c = λ address shared p name stands placed.
    let told = c.commit_at_point.ensures address shared p name stands placed in
    clean_none address _ shared.commits _ _ (ap (λ (k : Option Address). option_map (λ (a : Address). a.0) k) (sym c.in_err-commit.was) ∙ told) c.from_residual.ensures

pub clean_at-requires : goal.clean_at-requires
clean_at-requires c =
    let state = c.requires.state in
    let shared = state.1 in
    let stands = state.2 in
    let there = some_there (slice_get c.args.self.now.parts.places c.args.session) c.requires.session in
    let p = someone c.args.session there.0 in
    let told = c.commit_at_point.ensures state.0 shared p [] stands (record { number = refl; placed = ap (λ l. slice_get l c.args.session) (sym stands.places) ∙ there.1 }) in
    let is = sym told ∙ ap (λ (k : Option Address). option_map (λ (a : Address). a.0) k) c.in_ok-commit.was in
    let known = known_told state.0 c.args.self.now.parts.chunks shared.commits (unwrap_or (point_asked c.args.point.now) there.0) c.in_ok-commit.commit.0 c.args.self.now.parts.branches shared.branches stands.branches is in
    let s = subst (λ (db : Db). StateStands state.0 db.parts shared) (sym c.self.view_is) stands in
    has_commit state.0 (chunk_bytes (all_chunks c.self.inside.store)) shared.commits s.commits c.in_ok-commit.commit.0 known

pub returns : goal.returns
returns c = λ address shared p name stands placed.
    let told = c.commit_at_point.ensures address shared p name stands placed in
    let is = ap (λ (k : Option Address). option_map (λ (a : Address). a.0) k) (sym c.in_ok-commit.was) ∙ told in
    let known = known_told address c.args.self.now.parts.chunks shared.commits (unwrap_or (point_asked c.args.point.now) p.branch) c.in_ok-commit.commit.0 c.args.self.now.parts.branches shared.branches stands.branches (sym is) in
    let s = subst (λ (db : Db). StateStands address db.parts shared) (sym c.self.view_is) stands in
    let made = c.clean_at.ensures address shared.commits s.commits known in
    clean_some address _ shared.commits c.in_ok-commit.commit.0 _ c.clean_at.result is
    (subst (λ (db : Db). RecordStands address (chunk_bytes db.parts.chunks) shared.commits c.clean_at.result (clean_at c.in_ok-commit.commit.0 (root_of shared.commits c.in_ok-commit.commit.0))) c.self.view_is made)
