use Rattle.std.proofs.Common.{◌≡◌, List, length, sym, subst, arith}
use Rattle.tuple_codec.specs.declared.edits.Edit.{Edit}
use Rattle.index_keep.specs.Entries.{AreSorted}
use Rattle.sql_write.proofs.inserting.insert_edits.Goals as goal

pub insert_sorted-requires-after_bounds : goal.insert_sorted-requires-after_bounds
insert_sorted-requires-after_bounds g c κs within = (
  c.requires.0,
  c.requires.1,
  c.requires.2,
  record {
    edits = c.args.edits.items;
    may = c.requires.3;
    are_sorted = subst (λ (l : List Edit). AreSorted c.args.edits.items l) (sym c.as_slice.ensures.value) c.in_ok-sort_edits.ensures;
    count = omega (arith, c.len-written.ensures, c.args.edits.ok.0);
  },
)

pub returns-clause-done : goal.returns-clause-done
returns-clause-done g c = λ before contents rows may.
    c.insert_sorted.ensures.done before contents rows (record {
      edits = c.args.edits.items;
      may = may;
      are_sorted = subst (λ (l : List Edit). AreSorted c.args.edits.items l) (sym c.as_slice.ensures.value) c.in_ok-sort_edits.ensures;
      count = omega (arith, c.len-written.ensures, c.args.edits.ok.0);
    })
