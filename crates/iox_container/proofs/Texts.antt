use Rattle.std.proofs.Common.{ℕ, suc, ◌≡◌, ◌+◌, ◌-◌, ◌<◌, ◌≤◌, ◌++◌, ◌∷◌, [], List, length, take, drop, get_or, Option, Some, None, arith}
use Rattle.std.proofs.Common.{refl, sym, ap, ◌∙◌, IsUtf8}
use Rattle.std.specs.Prelude.{remove, slice_get}
use Rattle.std.specs.Option.{option_to_list}
use Rattle.std.proofs.lemmas.List.{append-nil, drop_all, drop_more, take-append-drop, take_at}
use Rattle.std.proofs.lemmas.List.Elements.{All-weaker}
use Rattle.std.proofs.lemmas.List.Prefix.{at_from_reads, at_reads}
use Rattle.std.proofs.lemmas.Option.{slice_get-get_or}
use Rattle.std.proofs.lemmas.Str.{IsUtf8-from_ascii}
use Rattle.std.proofs.lemmas.Str.Ascii.{IsAscii-from_all}
use Rattle.memchr.specs.Find.{FindsLastNeedle, FindsNeedle}
use Rattle.memchr.specs.Find as search_word
use Rattle.iox_container.specs.StringBytes.{IsStringByte, IsStringBytes}
use Rattle.iox_container.specs.Text.{FindsFirst, FindsLast, OccursAt, range_replaced}

-- the bytes of a string are ASCII, and so a text
pub IsUtf8-from_string_bytes : (bytes : List ℕ) → IsStringBytes bytes → IsUtf8 bytes
IsUtf8-from_string_bytes bytes valid =
    IsUtf8-from_ascii bytes (IsAscii-from_all bytes (All-weaker IsStringByte (λ b. b < 128) (λ b h. omega (arith, h.1)) bytes valid))

-- a text is the rest without its last byte, and then that byte
pub removed_last : (text : List ℕ) → 0 < length text
    → text ≡ remove text (length text - 1) ++ option_to_list (slice_get text (length text - 1))
removed_last text some =
    let last : ℕ = length text - 1 in
    let within : last < length text = omega arith in
    let past : length text ≤ suc last = omega arith in
    let past' : length text ≤ last + 1 = omega arith in
    rw (drop_all (suc last) text past, append-nil (take last text), slice_get-get_or text last 0 within)
    (sym (take-append-drop last text) ∙ ap (λ xs. take last text ++ xs)
    (drop_more text last 0 within ∙ ap (λ xs. get_or text last 0 ∷ xs) (drop_all (last + 1) text past')))

-- where each byte of the pattern stands, the pattern does
OccursAt-from_reads : (text pattern : List ℕ) (k : ℕ) → search_word.OccursAt text pattern k → OccursAt text pattern k
OccursAt-from_reads text pattern k there = record {
  fits = there.fits;
  same = ap (λ xs. take (length pattern) xs) (at_from_reads 0 text pattern k there.fits there.reads) ∙ take_at pattern _
      (length pattern) refl;
}

reads-from_OccursAt : (text pattern : List ℕ) (k : ℕ) → OccursAt text pattern k → search_word.OccursAt text pattern k
reads-from_OccursAt text pattern k there =
    let rest : List ℕ = drop (length pattern) (drop k text) in
    record {
      fits = there.fits;
      reads = at_reads 0 text pattern k rest (sym (take-append-drop (length pattern) (drop k text)) ∙ ap (λ xs. xs ++ rest) there.same);
    }

-- the library's first place is the first place
pub FindsFirst-from_search : (text pattern : List ℕ) (answer : Option ℕ) → FindsNeedle text pattern 0 answer
    → FindsFirst text pattern answer
FindsFirst-from_search text pattern None nowhere
    = λ k there. nowhere k (omega arith) (omega (arith, there.fits)) (reads-from_OccursAt text pattern k there)
FindsFirst-from_search text pattern (Some i) first = (
  OccursAt-from_reads text pattern i first.1,
  λ k below there. first.0.before k (omega arith) below
      (reads-from_OccursAt text pattern k there),
)

-- the library's last place is the last place
pub FindsLast-from_search : (text pattern : List ℕ) (answer : Option ℕ) → FindsLastNeedle text pattern answer
    → FindsLast text pattern answer
FindsLast-from_search text pattern None nowhere
    = λ k there. nowhere k (omega arith) (omega (arith, there.fits)) (reads-from_OccursAt text pattern k there)
FindsLast-from_search text pattern (Some i) last = (
  OccursAt-from_reads text pattern i last.1,
  λ k above there. last.0.after k (omega arith) (omega (arith, there.fits))
      (reads-from_OccursAt text pattern k there),
)

-- a text without its end is its front
pub without_end : (text : List ℕ) (from : ℕ) → range_replaced text from (length text) [] ≡ take from text
without_end text from = ap (λ xs. take from text ++ xs) (drop_all (length text) text (omega arith)) ∙ append-nil (take from text)
