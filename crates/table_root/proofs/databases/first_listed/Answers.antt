use Rattle.std.proofs.Common.{◌≤◌, ◌∙◌, List, ℕ, ap, drop, length, subst, sym, take}
use Rattle.table_root.specs.Databases.{IsFirstListed}
use Rattle.table_root.proofs.FormLemmas.{cut, none_listed}
use Rattle.table_root.proofs.databases.first_listed.Goals as goal

pub split_at-requires : goal.split_at-requires
split_at-requires c =
    let at = cut c.args.tables.now c.in-Some.size.now c.in-Some.rest.now c.in-Some.ensures.cases.0 c.requires.0 c.requires.1 in
    subst (λ n. n ≤ length c.in-Some.rest.now) (sym c.from.ensures) at.name

pub split_at-requires-in-Some : goal.split_at-requires-in-Some
split_at-requires-in-Some c =
    let rest = c.in-Some.rest.now in
    let at = cut c.args.tables.now c.in-Some.size.now rest c.in-Some.ensures.cases.0 c.requires.0 c.requires.1 in
    subst (λ (l : List ℕ). 20 ≤ length l) (sym (c.split_at.ensures.back ∙ ap (λ n. drop n rest) c.from.ensures)) at.address

pub returns-in-None-clause-is : goal.returns-in-None-clause-is
returns-in-None-clause-is c = λ entries listed. none_listed c.args.tables.now entries c.in-None.ensures.cases listed

pub returns-in-Some-clause-is : goal.returns-in-Some-clause-is
returns-in-Some-clause-is c = λ entries listed.
    let rest = c.in-Some.rest.now in
    let at = cut c.args.tables.now c.in-Some.size.now rest c.in-Some.ensures.cases.0 entries listed in
    let behind = c.split_at.ensures.back ∙ ap (λ n. drop n rest) c.from.ensures in
    let table = c.from_slice.ensures ∙ c.split_at-in-Some.ensures.front ∙ ap (take 20) behind in
    let others = c.split_at-in-Some.ensures.back ∙ ap (drop 20) behind in
    subst (λ (l : List ℕ). IsFirstListed c.from_slice.result l entries) (sym others)
    (subst (λ (l : List ℕ). IsFirstListed (record { 0 = l }) (drop 20 (drop c.in-Some.size.now rest)) entries) (sym table) at.first)
