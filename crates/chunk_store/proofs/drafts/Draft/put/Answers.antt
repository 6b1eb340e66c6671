use Rattle.std.proofs.Common.{◌≡◌, ℕ, List, cond, Some, None, ap, ◌∙◌, subst, refl}
use Rattle.chunk_store.specs.Drafts.{DraftParts, chunks_of}
use Rattle.chunk_store.proofs.DraftLemmas.{absent_in_both, put_held, put_is}
use Rattle.chunk_store.proofs.drafts.Draft.put.Goals as goal

pub add-requires-clause-absent : goal.add-requires-clause-absent
add-requires-clause-absent g c κs live =
    let old = c.args.self.now.chunks in
    let absent = c.in_ok-has.ensures.there ∙ ap (λ t. cond t (Some c.args.bytes.now) None) c.if-branch.false in
    (absent_in_both old.base old.own c.address_of-address.result.0 absent).1

pub add-requires-clause-agrees : goal.add-requires-clause-agrees
add-requires-clause-agrees g c κs live others held =
    let old = c.args.self.now.chunks in
    let absent = c.in_ok-has.ensures.there ∙ ap (λ t. cond t (Some c.args.bytes.now) None) c.if-branch.false in
    let none = (absent_in_both old.base old.own c.address_of-address.result.0 absent).0 in
    cc

pub returns : goal.returns
returns g c =
    let old = c.args.self.now.chunks in
    let bytes = c.args.bytes.now in
    let k = c.address_of-address.result.0 in
    let absent = c.in_ok-has.ensures.there ∙ ap (λ t. cond t (Some bytes) None) c.if-branch.false in
    let P : List ℕ → Type 0 = λ j. chunks_of c.add.new.self.chunks j ≡ Some bytes in
    record {
      address = c.address_of-address.ensures;
      exact = put_is g.D.Digester.address bytes k old c.add.new.self.chunks c.address_of-address.ensures absent c.in_ok-add.ensures.ok;
      held = record {
        named = refl;
        held = subst P c.address_of-address.ensures
            (ap (λ (d : DraftParts). chunks_of d k) c.in_ok-add.ensures.ok ∙ put_held old.base old.own k bytes absent);
      };
      cause = tt;
      brought = tt;
      same = tt;
      segments = c.add.ensures.segments;
      pages = c.add.ensures.pages;
    }
