-- Logic of three values: true, false, and None for NULL.
use Rattle.std.specs.Prelude.{Bool, true, false, Option, None, Some, not}

abbrev pub Truth3 : Type 0
Truth3 = Option Bool

-- false where one side is false, else NULL where one side is NULL
abbrev pub and3 : Truth3 → Truth3 → Truth3
and3 (Some false) b = Some false
and3 (Some true) b = b
and3 None (Some false) = Some false
and3 None (Some true) = None
and3 None None = None

-- true where one side is true, else NULL where one side is NULL
abbrev pub or3 : Truth3 → Truth3 → Truth3
or3 (Some true) b = Some true
or3 (Some false) b = b
or3 None (Some true) = Some true
or3 None (Some false) = None
or3 None None = None

abbrev pub not3 : Truth3 → Truth3
not3 (Some b) = Some (not b)
not3 None = None
