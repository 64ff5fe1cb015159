-- What a line of a script and its reply say of nodes, factories, ports, loans and samples: what was made, and what ended.
use Rattle.std.specs.Prelude.{ℕ, Bool, false, not, ◌&&◌, ◌||◌, List, [], ◌∷◌, Option, Some, None, codes, nat_eq, if◌then◌else◌}
use Rattle.std.specs.Char.{is_ascii_digit}
use Rattle.std.specs.List.{list_any}
use Rattle.example_tracer.specs.Exchange.{first_word, behind, is_text}

-- Whether this is the letter of a kind that a reply makes: a node, a factory, a publisher, a subscriber, or a loan.
abbrev pub is_kind : ℕ → Bool
is_kind letter = list_any (nat_eq letter) (codes "nfpsl")

-- Whether the text begins with the letter of a kind and a digit, as names do.
abbrev pub is_name : List ℕ → Bool
is_name [] = false
is_name (letter ∷ []) = false
is_name (letter ∷ digit ∷ others) = is_kind letter && is_ascii_digit digit

-- The name of what was made according to the reply, if something was.
abbrev pub made_by : List ℕ → Option (List ℕ)
made_by reply = if is_text (first_word reply) (codes "ok") && is_name (behind reply) then Some (behind reply) else None

-- Whether this verb ends what it names, if the reply is `ok`.
abbrev pub is_ending : List ℕ → Bool
is_ending verb = is_text verb (codes "close") || is_text verb (codes "leave") || is_text verb (codes "drop")
    || is_text verb (codes "release")

-- Whether a line ended what has this name: it was closed, dropped or released, or was sent, unless that was skipped.
abbrev pub ended_by : List ℕ → List ℕ → List ℕ → Bool
ended_by line reply name =
    is_text (behind line) name
    && ((is_ending (first_word line) && is_text reply (codes "ok"))
    || (is_text (first_word line) (codes "send") && not (is_text reply (codes "skip"))))
