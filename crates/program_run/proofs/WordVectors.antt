-- Worked lists of words.
use Rattle.std.proofs.Common.{◌≡◌, refl, codes, ℤ, pos, [], ◌∷◌, ◌++◌, Option, Some, None}
use Rattle.clap.specs.Words.{Text}
use Rattle.clap.proofs.OnLiterals.{clap_on_literals}
use Rattle.program_run.specs.Words.{form, form_of, task_asked}
use Rattle.program_run.specs.declared.words.Invocation.{Invocation}
use Rattle.program_run.specs.declared.words.Mode.TheVariants.{Ordered, Threads, Replay, Load}
use Rattle.program_run.specs.declared.words.MomentOrder.TheVariants.{Given, OfLines, OfThreads}
use Rattle.program_run.specs.declared.words.Task.TheVariants as task

abbrev ordered : ℤ → Option Invocation
ordered epoch = Some (record { mode = Ordered; epoch = epoch; seed = None })

alone : form (codes "ordered" ∷ []) ≡ ordered (pos 0)
unfolding clap_on_literals
alone = refl

epoch_before : form (codes "--epoch=5" ∷ codes "ordered" ∷ []) ≡ ordered (pos 5)
unfolding clap_on_literals
epoch_before = refl

epoch_behind : form (codes "ordered" ∷ codes "--epoch" ∷ codes "5" ∷ []) ≡ ordered (pos 5)
unfolding clap_on_literals
epoch_behind = refl

ends_before : form (codes "--epoch" ∷ codes "5" ∷ codes "--" ∷ codes "ordered" ∷ []) ≡ ordered (pos 5)
unfolding clap_on_literals
ends_before = refl

ends_behind : form (codes "ordered" ∷ codes "--" ∷ []) ≡ ordered (pos 0)
unfolding clap_on_literals
ends_behind = refl

greatest_epoch : form (codes "ordered" ∷ codes "--epoch=9223372036854775807" ∷ []) ≡ ordered (pos 9223372036854775807)
unfolding clap_on_literals
greatest_epoch = refl

threaded : form (codes "threads" ∷ codes "--epoch" ∷ codes "0" ∷ []) ≡ Some (record { mode = Threads; epoch = pos 0; seed = None })
unfolding clap_on_literals
threaded = refl

loads : form (codes "--seed=18446744073709551615" ∷ codes "load" ∷ codes "--epoch=5" ∷ []) ≡ Some (record { mode = Load; epoch = pos 5; seed = Some 18446744073709551615 })
unfolding clap_on_literals
loads = refl

epoch_twice : form (codes "ordered" ∷ codes "--epoch" ∷ codes "5" ∷ codes "--epoch" ∷ codes "6" ∷ []) ≡ None
unfolding clap_on_literals
epoch_twice = refl

negative_epoch : form (codes "ordered" ∷ codes "--epoch" ∷ codes "-1" ∷ []) ≡ None
unfolding clap_on_literals
negative_epoch = refl

great_epoch : form (codes "ordered" ∷ codes "--epoch" ∷ codes "9223372036854775808" ∷ []) ≡ None
unfolding clap_on_literals
great_epoch = refl

leading_zero : form (codes "ordered" ∷ codes "--epoch" ∷ codes "05" ∷ []) ≡ None
unfolding clap_on_literals
leading_zero = refl

leading_plus : form (codes "ordered" ∷ codes "--epoch" ∷ codes "+5" ∷ []) ≡ None
unfolding clap_on_literals
leading_plus = refl

no_value : form (codes "ordered" ∷ codes "--epoch" ∷ []) ≡ None
unfolding clap_on_literals
no_value = refl

empty_value : form (codes "ordered" ∷ codes "--epoch=" ∷ []) ≡ None
unfolding clap_on_literals
empty_value = refl

load_alone : form (codes "load" ∷ []) ≡ None
unfolding clap_on_literals
load_alone = refl

seed_twice : form (codes "load" ∷ codes "--seed" ∷ codes "1" ∷ codes "--seed" ∷ codes "1" ∷ []) ≡ None
unfolding clap_on_literals
seed_twice = refl

great_seed : form (codes "load" ∷ codes "--seed=18446744073709551616" ∷ []) ≡ None
unfolding clap_on_literals
great_seed = refl

seed_of_another : form (codes "ordered" ∷ codes "--seed" ∷ codes "1" ∷ []) ≡ None
unfolding clap_on_literals
seed_of_another = refl

two_words : form (codes "threads" ∷ codes "x" ∷ []) ≡ None
unfolding clap_on_literals
two_words = refl

two_words_behind : form (codes "ordered" ∷ codes "--" ∷ codes "x" ∷ []) ≡ None
unfolding clap_on_literals
two_words_behind = refl

another_word : form (codes "turbo" ∷ []) ≡ None
unfolding clap_on_literals
another_word = refl

help_asked : form (codes "--help" ∷ []) ≡ None
unfolding clap_on_literals
help_asked = refl

help_asked_too : form (codes "ordered" ∷ codes "-h" ∷ []) ≡ None
unfolding clap_on_literals
help_asked_too = refl

version_asked : form (codes "ordered" ∷ codes "--version" ∷ []) ≡ None
unfolding clap_on_literals
version_asked = refl

no_words : form [] ≡ None
unfolding clap_on_literals
no_words = refl

ends_at_once : form (codes "--" ∷ codes "--epoch=5" ∷ codes "ordered" ∷ []) ≡ None
unfolding clap_on_literals
ends_at_once = refl

shortened : form (codes "ordered" ∷ codes "--epo=5" ∷ []) ≡ None
unfolding clap_on_literals
shortened = refl

end_as_value : form (codes "ordered" ∷ codes "--epoch" ∷ codes "--" ∷ []) ≡ None
unfolding clap_on_literals
end_as_value = refl

-- any epoch and any seed
given_epoch : (epoch : Text) → form ((codes "--epoch=" ++ epoch) ∷ codes "ordered" ∷ []) ≡ form_of Ordered (Some epoch) None
unfolding clap_on_literals
given_epoch epoch = refl

given_epoch_behind : (epoch : Text) → form (codes "replay" ∷ (codes "--epoch=" ++ epoch) ∷ []) ≡ form_of Replay (Some epoch) None
unfolding clap_on_literals
given_epoch_behind epoch = refl

given_both : (epoch seed : Text) → form ((codes "--epoch=" ++ epoch) ∷ codes "load" ∷ (codes "--seed=" ++ seed) ∷ []) ≡ form_of Load (Some epoch) (Some seed)
unfolding clap_on_literals
given_both epoch seed = refl

-- what they ask to be run
ordered_runs : task_asked (codes "ordered" ∷ []) ≡ Some (task.Script (record { order = OfLines; epoch = pos 0 }))
unfolding clap_on_literals
ordered_runs = refl

replay_runs : task_asked (codes "--epoch=5" ∷ codes "replay" ∷ []) ≡ Some (task.Script (record { order = Given; epoch = pos 5 }))
unfolding clap_on_literals
replay_runs = refl

threads_run : task_asked (codes "threads" ∷ []) ≡ Some (task.Script (record { order = OfThreads; epoch = pos 0 }))
unfolding clap_on_literals
threads_run = refl

load_runs : task_asked (codes "load" ∷ codes "--seed=7" ∷ []) ≡ Some (task.Load (record { seed = 7; epoch = pos 0 }))
unfolding clap_on_literals
load_runs = refl
