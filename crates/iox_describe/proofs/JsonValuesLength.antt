-- How long the text of a plain value is at most.
use Rattle.std.proofs.Common.{◌≤◌, ◌<◌, ◌+◌, ◌*◌, ◌^◌, ◌/◌, ◌%◌, nat_lt, ℕ, zero, suc, List, [], ◌∷◌, ◌++◌, Bool, true, false, cond}
use Rattle.std.proofs.Common.{length, arith, lit<, length-append}
use Rattle.std.proofs.lemmas.Fmt.{length-decimal-le}
use Rattle.std.specs.Char.{digit_char}
use Rattle.json.specs.Print.{escape, escape_byte, escape_letter, quoted}
use Rattle.serde_json.specs.Data.{unsigned, negative, float, Data, null, boolean, number, string, array, object, Items, no_items, item}
use Rattle.serde_json.specs.Data.{Members, no_members, member}
use Rattle.serde_json.specs.Written.{comma_if, compact_text, items_text, members_text}
use Rattle.iox_describe.specs.Plain.{IsPlain, AreItems, AreMembers}

-- at most six bytes stand for one, and two quotes round them
abbrev pub quoted_bound : List ℕ → ℕ
quoted_bound text = 6 * length text + 2

-- a bound on the length of a text
abbrev mutual
  pub bound : Data → ℕ
  bound null = 4
  bound (boolean b) = 5
  bound (number n) = 20
  bound (string s) = quoted_bound s
  bound (array ds) = 1 + items_bound ds
  bound (object ms) = 1 + members_bound ms

  pub items_bound : Items → ℕ
  items_bound no_items = 1
  items_bound (item d ds) = 1 + bound d + items_bound ds

  pub members_bound : Members → ℕ
  members_bound no_members = 1
  members_bound (member k d ms) = 2 + quoted_bound k + bound d + members_bound ms

either : (b : Bool) (xs ys : List ℕ) → length xs ≤ 6 → length ys ≤ 6 → length (cond b xs ys) ≤ 6
either true xs ys h k = h
either false xs ys h k = k

escaped_byte : (x : ℕ) → length (escape_byte x) ≤ 6
unfolding escape_byte
escaped_byte x =
    let plain = x ∷ [] in
    let control = 92 ∷ 117 ∷ 48 ∷ 48 ∷ digit_char (x / 16) ∷ digit_char (x % 16) ∷ [] in
    either (nat_lt 0 (escape_letter x)) (92 ∷ escape_letter x ∷ []) (cond (nat_lt x 32) control plain) (omega arith)
    (either (nat_lt x 32) control plain (omega arith) (omega arith))

escaped : (s : List ℕ) → length (escape s) ≤ 6 * length s
escaped [] = omega arith
escaped (x ∷ xs) = omega (arith, length-append (escape_byte x) (escape xs), escaped_byte x, escaped xs)

in_quotes : (s : List ℕ) → length (quoted s) ≤ quoted_bound s
in_quotes s = omega (arith, length-append (escape s) (34 ∷ []), escaped s)

comma : (later : Bool) → length (comma_if later) ≤ 1
comma true = omega arith
comma false = omega arith

mutual
  pub text_bound : (n : ℕ) (d : Data) → IsPlain n d → length (compact_text d) ≤ bound d
  text_bound n null h = omega arith
  text_bound n (boolean true) h = omega arith
  text_bound n (boolean false) h = omega arith
  text_bound n (number (unsigned m)) h
      = length-decimal-le 20 m (omega arith) (let large : 2 ^ 64 < 10 ^ 20 = lit< tt in omega (arith, h, large)) h
  text_bound n (number (negative z)) h = absurd h
  text_bound n (number (float x)) h = absurd h
  text_bound n (string s) h = in_quotes s
  text_bound zero (array ds) h = absurd h
  text_bound (suc n) (array ds) h = omega (arith, items n false ds h)
  text_bound zero (object ms) h = absurd h
  text_bound (suc n) (object ms) h = omega (arith, members n false ms h.1)

  items : (n : ℕ) (later : Bool) (ds : Items) → AreItems n ds → length (items_text later ds) ≤ items_bound ds
  items n later no_items h = omega arith
  items n later (item d ds) h =
      omega (
        arith,
        length-append (comma_if later) (compact_text d ++ items_text true ds),
        length-append (compact_text d)
            (items_text true ds),
        comma later,
        text_bound n d h.0,
        items n true ds h.1,
      )

  members : (n : ℕ) (later : Bool) (ms : Members) → AreMembers n ms → length (members_text later ms) ≤ members_bound ms
  members n later no_members h = omega arith
  members n later (member k d ms) h =
      omega (
        arith,
        length-append (comma_if later) (quoted k ++ 58 ∷ (compact_text d ++ members_text true ms)),
        length-append (quoted k) (58 ∷ (compact_text d ++ members_text true ms)),
        length-append (compact_text d) (members_text true ms),
        comma later,
        in_quotes k,
        text_bound n d h.1,
        members n true ms h.2,
      )
