-- An epoch that words ask for is a date, and a date fits its type.
use Rattle.std.proofs.Common.{◌≡◌, refl, subst, sym, ℕ, ℤ, pos, negsuc, ◌<◌, arith, FitsSigned, w64, Bool, true, false, nat_lt, List, Option, Some, None, if◌then◌else◌}
use Rattle.std.specs.Prelude.{◌^◌, IfSome, codes, option_and_then, option_map}
use Rattle.std.proofs.lemmas.Bool.Decides.{nat_tests}
use Rattle.clap.specs.Walk.{is_empty}
use Rattle.clap.specs.Words.{Text, fault_of, first_of, matches_of}
use Rattle.script_text.specs.Numerals.{number}
use Rattle.plain_sessions.specs.StateLimits.{is_date}
use Rattle.program_run.specs.Words.{epoch_of, form, form_in, form_of, line, mode_named, seed_of, task_asked, task_epoch, task_of}
use Rattle.program_run.specs.declared.words.Invocation.{Invocation}
use Rattle.program_run.specs.declared.words.Mode.{Mode}
use Rattle.program_run.specs.declared.words.Mode.TheVariants.{Ordered, Threads, Replay, Load}
use Rattle.program_run.specs.declared.words.Task.{Task}

abbrev IsDate : ℤ → Type 0
IsDate epoch = is_date epoch ≡ true

pub date_fits : (epoch : ℤ) → IsDate epoch → FitsSigned w64 epoch
date_fits (pos seconds) is = let below : seconds < 2 ^ 63 = grind (arith, nat_tests) in record { sfits = below }
date_fits (negsuc seconds) is = absurd (cc)

named_below : (epoch : ℕ) (test : Bool) → nat_lt epoch (2 ^ 63) ≡ test → IfSome (if test then Some (pos epoch) else None) IsDate
named_below epoch true is = is
named_below epoch false is = tt

named : (found : Option ℕ) → IfSome (option_and_then (λ epoch. if nat_lt epoch (2 ^ 63) then Some (pos epoch) else None) found) IsDate
named None = tt
named (Some epoch) = named_below epoch (nat_lt epoch (2 ^ 63)) refl

epoch_dated : (text : Option Text) → IfSome (epoch_of text) IsDate
epoch_dated None = refl
epoch_dated (Some text) = named (number text)

with_seed : (mode : Mode) (epoch : ℤ) (seed : Option (Option ℕ)) → IsDate epoch → IfSome (option_map (λ given. record { mode = mode; epoch = epoch; seed = given }) seed) (λ (asked : Invocation). IsDate asked.epoch)
with_seed mode epoch None date = tt
with_seed mode epoch (Some given) date = date

with_epoch : (mode : Mode) (epoch : Option ℤ) (seed : Option Text) → IfSome epoch IsDate
    → IfSome (option_and_then (λ date. option_map (λ given. record { mode = mode; epoch = date; seed = given }) (seed_of mode seed)) epoch) (λ (asked : Invocation). IsDate asked.epoch)
with_epoch mode None seed date = tt
with_epoch mode (Some epoch) seed date = with_seed mode epoch (seed_of mode seed) date

with_mode : (mode : Option Mode) (epoch seed : Option Text) → IfSome (option_and_then (λ named. form_of named epoch seed) mode) (λ (asked : Invocation). IsDate asked.epoch)
with_mode None epoch seed = tt
with_mode (Some mode) epoch seed = with_epoch mode (epoch_of epoch) seed (epoch_dated epoch)

taken : (asked : Option Invocation) (test : Bool) → IfSome asked (λ (asked : Invocation). IsDate asked.epoch) → IfSome (if test then asked else None) (λ (asked : Invocation). IsDate asked.epoch)
taken asked true date = date
taken asked false date = tt

form_dated : (words : List Text) → IfSome (form words) (λ (asked : Invocation). IsDate asked.epoch)
form_dated words =
    let rows = matches_of line words in
    taken (form_in rows) (is_empty (fault_of line words)) (with_mode (option_and_then mode_named (first_of (codes "mode") rows)) (first_of (codes "epoch") rows) (first_of (codes "seed") rows))

abbrev IsDated : Task → Type 0
IsDated asked = IsDate (task_epoch asked)

with_given : (epoch : ℤ) (seed : Option ℕ) → IsDate epoch → IfSome (task_of Load epoch seed) IsDated
with_given epoch None date = tt
with_given epoch (Some given) date = date

in_mode : (mode : Mode) (epoch : ℤ) (seed : Option ℕ) → IsDate epoch → IfSome (task_of mode epoch seed) IsDated
in_mode Ordered epoch seed date = date
in_mode Threads epoch seed date = date
in_mode Replay epoch seed date = date
in_mode Load epoch seed date = with_given epoch seed date

of_form : (asked : Option Invocation) → IfSome asked (λ (asked : Invocation). IsDate asked.epoch)
    → IfSome (option_and_then (λ (asked : Invocation). task_of asked.mode asked.epoch asked.seed) asked) IsDated
of_form None date = tt
of_form (Some asked) date = in_mode asked.mode asked.epoch asked.seed date

pub asked_dated : (words : List Text) (asked : Task) → Some asked ≡ task_asked words → is_date (task_epoch asked) ≡ true
asked_dated words asked is = subst (λ (o : Option Task). IfSome o IsDated) (sym is) (of_form (form words) (form_dated words))
