use Rattle.std.proofs.Common.{◌≡◌, ◌∙◌, ap, sym, List, ℕ}
use Rattle.std.proofs.lemmas.Result.{IfOk-weaker}
use Rattle.shared_db.specs.Shared.{record_at}
use Rattle.program_run.specs.Loading.{load_rows_in, rows_in}
use Rattle.program_run.proofs.CountLemmas.{kept_seen, record_there, rows_are}
use Rattle.program_run.proofs.counting.rows_on_main.Goals as goal

pub look-requires : goal.look-requires
look-requires g c = record_there c.args.db.now.parts.branches c.main_name-name.result c.main_name-name.ensures c.requires.there

pub rows_seen-requires-after_bounds : goal.rows_seen-requires-after_bounds
rows_seen-requires-after_bounds g c κs within =
    let state = c.requires.state in
    kept_seen g.D.Digester.address c.args.db.now.parts state.0 state.1 c.law_of_states.ensures c.in_ok-look.look (c.in_ok-look.ensures.branch ∙ c.main_name-name.ensures)
    (ap (λ (name : List ℕ). record_at name c.args.db.now.parts.branches) (sym c.main_name-name.ensures) ∙ c.in_ok-look.ensures.there) c.in_ok-look.ensures.heads c.in_ok-look.ensures.chunks

pub returns : goal.returns
returns g c = λ shared stands.
    let name = c.in_ok-look.ensures.branch ∙ c.main_name-name.ensures in
    let there = ap (λ (name : List ℕ). record_at name c.args.db.now.parts.branches) (sym c.main_name-name.ensures) ∙ c.in_ok-look.ensures.there in
    let kept = kept_seen g.D.Digester.address c.args.db.now.parts shared stands c.law_of_states.ensures c.in_ok-look.look name there c.in_ok-look.ensures.heads c.in_ok-look.ensures.chunks in
    IfOk-weaker c.rows_seen.result (λ rows. rows ≡ load_rows_in kept.0) (λ rows. rows ≡ rows_in shared)
    (λ rows is. rows_are g.D.Digester.address c.args.db.now.parts shared stands c.law_of_states.ensures c.in_ok-look.look name there c.in_ok-look.ensures.heads c.in_ok-look.ensures.chunks rows is)
    (c.rows_seen.ensures kept.0 kept.1)
