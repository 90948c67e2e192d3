-- Document 01, "The event program": what a list of lines prints, and how a run of them ends. Assumes nothing.
use Rattle.std.specs.Prelude.{ℕ, ◌+◌, Bool, true, false, cond, List, [], ◌∷◌, ◌++◌, Result, Ok, Err}
use Rattle.report.specs.AnswerLines.{bad_line}
use Rattle.streams.specs.Writing.{wrapped}
use Rattle.streams.specs.Reading.{Answer}
use Rattle.streams.specs.declared.reader.Line.TheVariants.{At, End, Long}
use Rattle.script.specs.declared.card.Card.{Card}
use Rattle.script.specs.declared.reading.Want.{Want}
use Rattle.script.specs.declared.reading.Want.TheVariants.{Mac, Addresses, Address, Events, Event, Nothing, Failed}
use Rattle.script.specs.CardRules.{new_card, listed_text}
use Rattle.script.specs.StepRules.{step_of}
use Rattle.runner.specs.declared.RunError.{RunError}
use Rattle.runner.specs.declared.RunError.TheVariants.{BadLine, NotRead, NotWritten}

-- a bad line has come
abbrev pub failed : Want → Bool
failed Failed = true
failed Mac = false
failed Addresses = false
failed (Address n) = false
failed Events = false
failed (Event n) = false
failed Nothing = false

-- all events have come
abbrev pub complete : Want → Bool
complete Nothing = true
complete Mac = false
complete Addresses = false
complete (Address n) = false
complete Events = false
complete (Event n) = false
complete Failed = false

-- how a run ends: all events came and the state was listed, or why it was not
abbrev pub Ending : Type 0
Ending = Result (Unit {0}) RunError

-- The reader's last answer, where line n is wanted: no line is left, or line n is "above 4,096 bytes", or was not read. A line is no end by
-- itself: a run that stops after one that is not bad has not written its output.
-- "A bad line N (from 1; also one missing, surplus, above 4,096 bytes or refused by the address table)"
abbrev pub end_of : Answer → Want → ℕ → Ending
end_of (Ok End) w n = cond (complete w) (Ok tt) (Err (BadLine n))
end_of (Ok (Long left)) w n = Err (BadLine n)
end_of (Ok (At from to left)) w n = Err NotWritten
end_of (Err e) w n = Err NotRead

-- "Then the state. A bad line N (..) ends the output with `bad line N` in place of the state." What was not read or not written ends
-- it where it is.
abbrev pub end_text : Ending → Card → List ℕ
end_text (Ok u) x = listed_text x
end_text (Err (BadLine n)) x = bad_line n
end_text (Err NotRead) x = []
end_text (Err NotWritten) x = []

-- Line n and those after it, with the reader's answer after the last of them: each prints its text, and the first bad one is the last.
-- The number is kept in 64 bits. A line above 4,096 bytes prints the same whether it is among the lines or the reader's answer is Long
-- (`long_line` of proofs/RunLaws.antt).
unfoldable pub output_from : Answer → ℕ → Want → Card → List (List ℕ) → List ℕ
output_from l n w x [] = end_text (end_of l w n) x
output_from l n w x (line ∷ lines) =
    (step_of w x line).text
    ++ cond (failed (step_of w x line).want) (bad_line n)
    (output_from l (wrapped (n + 1)) (step_of w x line).want (step_of w x line).card lines)

unfoldable pub ending_from : Answer → ℕ → Want → Card → List (List ℕ) → Ending
ending_from l n w x [] = end_of l w n
ending_from l n w x (line ∷ lines) =
    cond (failed (step_of w x line).want) (Err (BadLine n))
    (ending_from l (wrapped (n + 1)) (step_of w x line).want (step_of w x line).card lines)

-- lines, from the first, which is number 1, and the reader's answer after them
abbrev pub output_after : Answer → List (List ℕ) → List ℕ
output_after l lines = output_from l 1 Mac new_card lines

abbrev pub ending_after : Answer → List (List ℕ) → Ending
ending_after l lines = ending_from l 1 Mac new_card lines

-- all the lines of an input
abbrev pub output_of : List (List ℕ) → List ℕ
output_of lines = output_after (Ok End) lines
