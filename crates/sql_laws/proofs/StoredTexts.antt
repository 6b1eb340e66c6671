-- The canonical text of an expression that isn't too deep is UTF-8 and is read back.
use Rattle.std.proofs.Common.{◌≡◌, ◌≤◌, ◌∙◌, inl, inr, sym, false, arith}
use Rattle.std.proofs.lemmas.Bool.{and_parts, false≢true}
use Rattle.std.proofs.lemmas.Bool.Decides.{leb_tells}
use Rattle.sql_ast.specs.declared.expressions.Expr.{Expr}
use Rattle.sql_text.specs.Depths.{depth, is_deep}
use Rattle.sql_laws.specs.Spelling.{deepest, is_tree}
use Rattle.sql_laws.specs.Canonical.{canonical}
use Rattle.sql_laws.specs.CanonicalLaws.{StoresText}
use Rattle.sql_laws.specs.Written.{is_written}
use Rattle.sql_laws.proofs.Depths.{counts_open}
use Rattle.sql_laws.proofs.ReadBack.{reads_text}
use Rattle.sql_laws.proofs.TextUtf8.{text_utf8}

shallow : (x : Expr) → is_deep x ≡ false → deepest 0 (canonical x) ≤ 64
shallow x is =
    elim (leb_tells 65 (depth x)) as (λ b. deepest 0 (canonical x) ≤ 64) [
      | inl tells ↦ absurd (false≢true (sym is ∙ tells.0))
      | inr tells ↦ omega (arith, counts_open x, tells.1)
    ]

pub stores_text : StoresText
stores_text x is low =
    let parts = and_parts (is_tree x) (is_written x) is in
    (reads_text x parts.0 parts.1 (shallow x low), text_utf8 x false parts.1)
