use Rattle.std.proofs.Common.{◌∙◌, Ok, Err, ap, map, subst, sym}
use Rattle.plain_sql.specs.Gives.{Adds}
use Rattle.plain_sql.specs.Levels.{rows_of}
use Rattle.plain_sql.specs.Lists.{behind}
use Rattle.plain_sql.specs.Nesting.{kept_from}
use Rattle.plain_sql.specs.Plans.{meaning}
use Rattle.plain_sql.proofs.LevelLemmas.{goes_back, goes_deeper, goes_on, goes_over, last_level, less_back, less_deeper, none_left, opened_is, served_last, work_opened}
use Rattle.plain_sql.proofs.combining.kept_from.Goals as goal

pub returns-in_err-keep_joined : goal.returns-in_err-keep_joined
returns-in_err-keep_joined c =
    let tests = map meaning c.args.tests.now in
    let whole = kept_from tests (rows_of c.args.sources.now) c.args.row in
    let level = c.in-Some.level in
    let last = last_level tests level c.as_slice.result.now (sym c.is_empty-in-Some.ensures ∙ c.if-is_empty-2.true) c.as_slice.ensures in
    goes_over tests c.args.kept.now whole c.levels.kept c.keep_joined.new.kept c.keep_joined.new.kept c.levels.levels.items c.pop.new.self.items level c.levels.invariant c.in-Some.ensures.items
    c.in_err-keep_joined.field-0.0 (subst (Adds (Err c.in_err-keep_joined.field-0.0) c.levels.kept c.keep_joined.new.kept) last c.in_err-keep_joined.ensures)
    c.from_residual-in_err-keep_joined.result c.from_residual-in_err-keep_joined.ensures

pub levels-smaller-then-is_empty-2 : goal.levels-smaller-then-is_empty-2
levels-smaller-then-is_empty-2 c = less_back c.levels.levels.items c.pop.new.self.items c.in-Some.level c.in-Some.ensures.items

pub levels-preserved-then-is_empty-2 : goal.levels-preserved-then-is_empty-2
levels-preserved-then-is_empty-2 c =
    let tests = map meaning c.args.tests.now in
    let whole = behind (Ok c.args.kept.now) (kept_from tests (rows_of c.args.sources.now) c.args.row) in
    let level = c.in-Some.level in
    let last = last_level tests level c.as_slice.result.now (sym c.is_empty-in-Some.ensures ∙ c.if-is_empty-2.true) c.as_slice.ensures in
    goes_on tests whole c.levels.kept c.keep_joined.new.kept c.levels.levels.items c.pop.new.self.items level c.levels.invariant c.in-Some.ensures.items
    (ap (behind (Ok c.levels.kept)) (sym last) ∙ c.in_ok-keep_joined.ensures)

pub opened-requires-clause-served : goal.opened-requires-clause-served
opened-requires-clause-served c =
    let tests = map meaning c.args.tests.now in
    let whole = behind (Ok c.args.kept.now) (kept_from tests (rows_of c.args.sources.now) c.args.row) in
    (tests, served_last tests whole c.levels.kept c.levels.levels.items c.pop.new.self.items c.in-Some.level c.levels.invariant c.in-Some.ensures.items)

pub levels-smaller-in-Continue-branch-6 : goal.levels-smaller-in-Continue-branch-6
levels-smaller-in-Continue-branch-6 c =
    let both = c.in-Some-2.both in
    less_deeper c.levels.levels.items c.pop.new.self.items c.push-in-Some-2.new.self.items c.push-in-Some-2-2.new.self.items c.in-Some.level both.0 both.1 c.in-Some.ensures.items
    c.in_ok-push-2.ensures.items c.in_ok-push-3.ensures.items (work_opened c.in-Some.level both c.in_ok-both.field-0 c.in-Some-2.is c.in_ok-both.ensures.work)

pub levels-preserved-in-Continue-branch-6 : goal.levels-preserved-in-Continue-branch-6
levels-preserved-in-Continue-branch-6 c =
    let tests = map meaning c.args.tests.now in
    let whole = behind (Ok c.args.kept.now) (kept_from tests (rows_of c.args.sources.now) c.args.row) in
    let level = c.in-Some.level in
    let both = c.in-Some-2.both in
    let served = served_last tests whole c.levels.kept c.levels.levels.items c.pop.new.self.items level c.levels.invariant c.in-Some.ensures.items in
    goes_deeper tests whole c.levels.kept c.levels.levels.items c.pop.new.self.items c.push-in-Some-2.new.self.items c.push-in-Some-2-2.new.self.items level both.0 both.1 c.levels.invariant
    c.in-Some.ensures.items c.in_ok-push-2.ensures.items c.in_ok-push-3.ensures.items
    (opened_is level both c.in_ok-both.field-0 c.in-Some-2.is c.in_ok-both.ensures.opens tests served)

pub levels-smaller : goal.levels-smaller
levels-smaller c = less_back c.levels.levels.items c.pop.new.self.items c.in-Some.level c.in-Some.ensures.items

pub levels-preserved : goal.levels-preserved
levels-preserved c =
    let tests = map meaning c.args.tests.now in
    let whole = behind (Ok c.args.kept.now) (kept_from tests (rows_of c.args.sources.now) c.args.row) in
    goes_back tests whole c.levels.kept c.levels.levels.items c.pop.new.self.items c.in-Some.level c.levels.invariant c.in-Some.ensures.items
    (none_left c.in-Some.level c.in_ok-both.field-0 c.in_default-2.is c.in_ok-both.ensures.opens)
