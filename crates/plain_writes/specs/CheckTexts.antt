-- The texts of CHECKs, as rows are judged by them.
use Rattle.sql_grammar.specs.Checking.{canonical_expression}
use Rattle.plain_writes.specs.Violations.{Checks, checks_by}

-- a CHECK's text is judged by the expression whose canonical text it is
abbrev pub checks : Checks
checks = checks_by canonical_expression
