-- Runs and stops that can be read back: the laws speak of them.
use Rattle.std.proofs.Common.{refl, codes, replicate, [], ◌∷◌, arith}
use Rattle.std.specs.List.{IsDistinct}
use Rattle.script_text.specs.Shown.{IsShown, IsShownStop}
use Rattle.script_text.specs.declared.outputs.RunText.{RunText}
use Rattle.script_text.specs.declared.outputs.StopText.{StopText}
use Rattle.script_text.specs.declared.replies.Reply.TheVariants.{Done, Count, Rows, Refused, Syntax, Collided}
use Rattle.tuple_codec.specs.declared.values.SqlType.TheVariants as kind
use Rattle.tuple_codec.specs.declared.values.Value.TheVariants as cell

-- a session that is named as the line of moments begins, one with no reply, a column whose name holds a comma, and a
-- collision with its byte strings behind one without
run : RunText
run = record {
  names = codes "order" ∷ codes "session" ∷ [];
  replies = (Done ∷ Count 2 ∷ Rows (record { names = codes "a,b" ∷ []; kinds = kind.Varchar 20 ∷ []; rows = (cell.Text (codes "2 ok\norder") ∷ []) ∷ [] }) ∷ Refused 1050 ∷ Syntax 0 ∷ Refused 3 ∷ Collided (record { address = record { 0 = replicate 20 255 }; first = codes "hi"; second = 0 ∷ 255 ∷ [] }) ∷ []) ∷ [] ∷ [];
  order = (record { session = 0; statement = 1 }) ∷ (record { session = 0; statement = 3 }) ∷ [];
  branches = [];
}

shown : IsShown run
unfolding run IsDistinct
shown = record { names = refl; distinct = ((refl, tt), (tt, tt)); lists = refl; replies = refl; moments = refl }

no_session : IsShown (record { names = []; replies = []; order = []; branches = [] })
unfolding IsDistinct
no_session = record { names = refl; distinct = tt; lists = refl; replies = refl; moments = refl }

stop : StopText
stop = record { item = 12; names = run.names; replies = run.replies }

shown_stop : IsShownStop stop
unfolding run stop IsDistinct
shown_stop = record { item = omega arith; names = refl; distinct = ((refl, tt), (tt, tt)); lists = refl; replies = refl; few = refl }
