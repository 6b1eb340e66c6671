use Rattle.std.proofs.Common.{◌≡◌, ◌∙◌, ◌-◌, true, false, sym, ap, take}
use Rattle.std.specs.Prelude.{◌&&◌}
use Rattle.std.specs.List.{list_all}
use Rattle.node_chunker.specs.Subtrees.{is_clear}
use Rattle.node_chunker.specs.Towers.{is_empty}
use Rattle.node_chunker.proofs.SubtreeLemmas.{clear_levels}
use Rattle.node_chunker.proofs.towers.Tower.is_clear.Goals as goal

pub returns-then-is_empty : goal.returns-then-is_empty
returns-then-is_empty c =
    let leaf = c.self.inside.leaf in
    let inner = c.self.inside.inner.items in
    let level = c.args.level in
    let none : is_empty leaf ≡ true = sym c.is_empty.ensures ∙ c.if-is_empty.true in
    c.are_empty.ensures
    ∙ ap (λ l. list_all is_empty (take (level - 1) l)) c.deref.ensures.value
    ∙ sym (ap (λ b. b && list_all is_empty (take (level - 1) inner)) none)
    ∙ sym (clear_levels level leaf inner c.requires)
    ∙ ap (is_clear level) c.self.view_is

pub returns-else-is_empty : goal.returns-else-is_empty
returns-else-is_empty c =
    let leaf = c.self.inside.leaf in
    let inner = c.self.inside.inner.items in
    let level = c.args.level in
    let some : is_empty leaf ≡ false = sym c.is_empty.ensures ∙ c.if-is_empty.false in
    c.if-is_empty.false
    ∙ sym (ap (λ b. b && list_all is_empty (take (level - 1) inner)) some)
    ∙ sym (clear_levels level leaf inner c.requires)
    ∙ ap (is_clear level) c.self.view_is
