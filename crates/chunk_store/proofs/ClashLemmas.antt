use Rattle.std.proofs.Common.{◌≡◌, ℕ, Bool, cond, List, Option, Some, None, sym, ap, ◌∙◌}
use Rattle.std.proofs.lemmas.Option.{cond_some}
use Rattle.chunk_store.specs.declared.faults.PutFault.{PutFault}
use Rattle.chunk_store.specs.declared.faults.PutFault.TheVariants.{Memory, Collision}
use Rattle.chunk_store.specs.Chunks.{Chunks}
use Rattle.chunk_store.specs.Clashes.{IsCause, IsCauseAt, IsOther, Differ}

-- a clash at one address is a clash of the two look-ups
pub cause_at : (held brought : Chunks) (k bytes : List ℕ) (found : Option (List ℕ)) (fault : PutFault) → found ≡ held k → brought k ≡ Some bytes
    → IsCauseAt k found bytes fault → IsCause held brought fault
cause_at held brought k bytes found Memory is here cause = tt
cause_at held brought k bytes found (Collision clash) is here cause = record {
  is_held = ap held cause.address_is ∙ sym is ∙ cause.held_is;
  is_brought = ap brought cause.address_is ∙ here ∙ ap Some (sym cause.brought_is);
  differ = cause.differ;
}

pub differ_at : (held brought : Chunks) (k bytes : List ℕ) (found : Option (List ℕ)) → found ≡ held k → brought k ≡ Some bytes → IsOther found bytes → Differ held brought
differ_at held brought k bytes found is here other = record {
  address = k;
  here = other.other;
  there = bytes;
  is_held = sym is ∙ other.found_is;
  is_brought = here;
  differ = other.differ;
}

-- bytes that are there or at whose address nothing is differ from none
pub allowed_from : (there : Bool) (found : Option (List ℕ)) (bytes others : List ℕ) → found ≡ cond there (Some bytes) None → found ≡ Some others → others ≡ bytes
allowed_from there found bytes others is held = sym (cond_some there bytes others (sym is ∙ held)).1
