-- Lines name no more commands and steps than they have bytes.
use Rattle.std.proofs.Common.{◌≡◌, ℕ, zero, suc, ◌+◌, ◌≤◌, ◌==◌, Bool, true, false, List, [], ◌∷◌, ◌++◌, Result, Ok, Err, if◌then◌else◌}
use Rattle.std.proofs.Common.{length, length-append, map, take, ap, arith}
use Rattle.std.specs.List.{AllZip, filter_map, join_with_byte}
use Rattle.std.specs.Result.{result_ok}
use Rattle.std.specs.Str.{byte}
use Rattle.iox_command.specs.declared.command.Command.{Command}
use Rattle.iox_command.specs.declared.command.Command.TheVariants as command
use Rattle.iox_command.specs.declared.step.ForeignStep.{ForeignStep}
use Rattle.iox_command.specs.declared.step.StepBefore.{StepBefore}
use Rattle.iox_conversation.proofs.Shorthands.{before_first_of, ended_lines_of, heard, lines_of, onto_first}
use Rattle.iox_conversation.specs.Lines.{heard_whole}
use Rattle.iox_hub_machine.specs.RunLaws.{all_asked, steps_named}
use Rattle.iox_line.proofs.Shorthands.{WritesSteps, beginning}
use Rattle.iox_line.specs.Outcome.{IsReadAs}
use Rattle.iox_line.specs.Spelling.{Spells}
use Rattle.iox_line.specs.Steps.{WritesLists}
use Rattle.iox_line.specs.declared.error.LineError.{LineError}

-- the bytes of lines, and one more for each
abbrev bytes_of : List (List ℕ) → ℕ
bytes_of [] = 0
bytes_of (line ∷ lines) = 1 + length line + bytes_of lines

words-few : (separator : ℕ) (words : List (List ℕ)) → length words ≤ 1 + length (join_with_byte separator words)
words-few separator [] = omega arith
words-few separator (word ∷ []) = omega arith
words-few separator (word ∷ next ∷ words) =
    omega (arith, words-few separator (next ∷ words), length-append word (separator ∷ join_with_byte separator (next ∷ words)))

lists-few : (now : ℕ) (steps : List StepBefore) (words : List (List ℕ)) → WritesLists now steps words → length steps ≤ length words
lists-few now [] words are = omega arith
lists-few now (before ∷ steps) words are = omega (
  arith,
  lists-few before.access steps are.1 are.3,
  ap (λ (all : List (List ℕ)). length all) are.4,
  length-append (beginning now before.access) (are.0 ∷ are.1),
)

steps-few : (steps : List ForeignStep) (words : List (List ℕ)) → WritesSteps steps words → length steps ≤ length words
steps-few [] words are = omega arith
steps-few (step ∷ steps) [] are = absurd are
steps-few (step ∷ steps) (word ∷ words) are = omega (arith, steps-few steps words are.1)

-- words that name a service have as many for its steps
named-few : (chosen attributed listed named : List (List ℕ)) (node pattern name line : List ℕ) (words : List (List ℕ)) (verb : List ℕ)
    (steps : ℕ) → steps ≤ length listed → named ≡ node ∷ pattern ∷ name ∷ (chosen ++ (attributed ++ listed)) → words ≡ verb ∷ named
    → line ≡ join_with_byte (byte " ") words → steps ≤ length line
named-few chosen attributed listed named node pattern name line words verb steps few is all spelled = omega (
  arith,
  few,
  ap (λ (all : List (List ℕ)). length all) is,
  ap (λ (all : List (List ℕ)). length all) all,
  ap (λ (bytes : List ℕ). length bytes) spelled,
  words-few (byte " ") words,
  length-append chosen (attributed ++ listed),
  length-append attributed listed,
)

line-few : (line : List ℕ) (asked : Command ℕ) → Spells line asked → steps_named asked ≤ length line
line-few line (command.Create node name options attributes steps) spelled =
    let writes = spelled.writes in
    named-few writes.5.0 writes.0 writes.1 writes.2 _ _ _ line spelled.words _ (length steps) (lists-few 0 steps writes.1 writes.4)
    writes.5.2 writes.6 spelled.spaced_so
line-few line (command.Open node name options required steps) spelled =
    let writes = spelled.writes in
    named-few writes.5.0 writes.0 writes.1 writes.2 _ _ _ line spelled.words _ (length steps) (lists-few 0 steps writes.1 writes.4)
    writes.5.2 writes.6 spelled.spaced_so
line-few line (command.OpenOrCreate node name options required steps) spelled =
    let writes = spelled.writes in
    named-few writes.5.0 writes.0 writes.1 writes.2 _ _ _ line spelled.words _ (length steps) (lists-few 0 steps writes.1 writes.4)
    writes.5.2 writes.6 spelled.spaced_so
line-few line (command.Foreign pattern name steps) spelled =
    let writes = spelled.writes in
    omega (
      arith,
      steps-few steps writes.0 writes.1,
      ap (λ (all : List (List ℕ)). length all) writes.2,
      ap (λ (bytes : List ℕ). length bytes) spelled.spaced_so,
      words-few (byte " ") spelled.words,
    )
line-few line other spelled = omega arith

-- the commands among what was read, in order
abbrev pub commands_among : List (Result (Command ℕ) LineError) → List (Command ℕ)
commands_among reads = filter_map (λ (read : Result (Command ℕ) LineError). result_ok read) reads

reads-few : (lines : List (List ℕ)) (reads : List (Result (Command ℕ) LineError)) → AllZip IsReadAs lines reads
    → all_asked (commands_among reads) ≤ bytes_of lines
reads-few [] [] are = omega arith
reads-few (line ∷ lines) (Ok asked ∷ reads) are = omega (arith, line-few line asked are.0.1, reads-few lines reads are.1)
reads-few (line ∷ lines) (Err _ ∷ reads) are = omega (arith, reads-few lines reads are.1)
reads-few [] (read ∷ reads) are = absurd are
reads-few (line ∷ lines) [] are = absurd are

either-few : (test : Bool) (one other : List (List ℕ)) (most : ℕ) → bytes_of one ≤ most → bytes_of other ≤ most
    → bytes_of (if test then one else other) ≤ most
either-few true one other most first second = first
either-few false one other most first second = second

onto-few : (b most : ℕ) (pieces : List (List ℕ)) → bytes_of pieces ≤ 1 + most → bytes_of (onto_first b pieces) ≤ 2 + most
onto-few b most [] few = omega arith
onto-few b most (piece ∷ pieces) few = omega (arith, few)

before-few : (b most : ℕ) (pieces : List (List ℕ)) → bytes_of pieces ≤ 1 + most → bytes_of (before_first_of b pieces) ≤ 2 + most
before-few b most [] few = omega arith
before-few b most (piece ∷ pieces) few = omega (arith, few)

lines-few : (bytes : List ℕ) → bytes_of (lines_of bytes) ≤ 1 + length bytes
lines-few [] = omega arith
lines-few (b ∷ bytes) = either-few (b == 10) ([] ∷ lines_of bytes) (onto_first b (lines_of bytes)) (1 + length (b ∷ bytes))
    (omega (arith, lines-few bytes)) (omega (arith, onto-few b (length bytes) (lines_of bytes) (lines-few bytes)))

ended-few : (bytes : List ℕ) → bytes_of (ended_lines_of bytes) ≤ 1 + length bytes
ended-few [] = omega arith
ended-few (b ∷ bytes) = either-few (b == 10) ([] ∷ ended_lines_of bytes) (before_first_of b (ended_lines_of bytes)) (1 + length (b ∷ bytes))
    (omega (arith, ended-few bytes)) (omega (arith, before-few b (length bytes) (ended_lines_of bytes) (ended-few bytes)))

take-few : (many : ℕ) (bytes : List ℕ) → length (take many bytes) ≤ length bytes
take-few zero bytes = omega arith
take-few (suc many) [] = omega arith
take-few (suc many) (b ∷ bytes) = omega (arith, take-few many bytes)

first-few : (lines : List (List ℕ)) → bytes_of (map (λ line. take 1025 line) lines) ≤ bytes_of lines
first-few [] = omega arith
first-few (line ∷ lines) = omega (arith, take-few 1025 line, first-few lines)

heard-few : (bytes : List ℕ) → bytes_of (heard bytes) ≤ 1 + length bytes
heard-few bytes = omega (arith, first-few (lines_of bytes), lines-few bytes)

whole-few : (ended : Bool) (bytes : List ℕ) → bytes_of (heard_whole ended bytes) ≤ 1 + length bytes
whole-few true bytes = heard-few bytes
whole-few false bytes = omega (arith, first-few (ended_lines_of bytes), ended-few bytes)

append-few : (lines others : List (List ℕ)) → bytes_of lines ≤ bytes_of (lines ++ others)
append-few [] others = omega arith
append-few (line ∷ lines) others = omega (arith, append-few lines others)

-- commands among the lines that are heard, and the steps that they name, are no more than the bytes, or one more
pub asked-heard : (bytes : List ℕ) (reads : List (Result (Command ℕ) LineError)) → AllZip IsReadAs (heard bytes) reads
    → all_asked (commands_among reads) ≤ 1 + length bytes
asked-heard bytes reads are = omega (arith, reads-few (heard bytes) reads are, heard-few bytes)

-- so it is of the first of those that were read whole
pub asked-whole : (ended : Bool) (bytes : List ℕ) (lines others : List (List ℕ)) (reads : List (Result (Command ℕ) LineError))
    → heard_whole ended bytes ≡ lines ++ others → AllZip IsReadAs lines reads → all_asked (commands_among reads) ≤ 1 + length bytes
asked-whole ended bytes lines others reads whole are = omega (
  arith,
  reads-few lines reads are,
  append-few lines others,
  ap (λ (all : List (List ℕ)). bytes_of all) whole,
  whole-few ended bytes,
)
