use Rattle.std.proofs.Common.{rules, arith, ap, ◌≡◌, ◌∙◌, ◌+◌, length, [], ◌∷◌, ◌++◌}
use Rattle.std.proofs.lemmas.List.{length-append}
use Rattle.std.proofs.lemmas.List.Elements.{All-cons, All-nil, All-same}
use Rattle.std.proofs.lemmas.Grind.{common_steps}
use Rattle.iox_container.specs.StringBytes.{IsStringByte, IsStringBytes}
use Rattle.iox_describe_base.proofs.ArrayNames.{digits_are_text, digits_are_few}
use Rattle.iox_describe_base.proofs.zero_copy_send.arrays.array_name.Goals as goal

semicolon : IsStringBytes (59 ∷ 32 ∷ [])
semicolon = All-cons IsStringByte 59 (32 ∷ []) (omega arith, omega arith)
    (All-cons IsStringByte 32 [] (omega arith, omega arith) (All-nil IsStringByte))

pub unwrap-requires-3 : goal.unwrap-requires-3
unwrap-requires-3 c =
    let before : c.push_bytes-2.new.self ≡ 91 ∷ c.args.name.now = search rules in
    c.push_bytes-3.ensures.answer.accepted.1 (omega (arith, ap length before, c.requires.1), semicolon)

pub unwrap-requires-4 : goal.unwrap-requires-4
unwrap-requires-4 c =
    let before : c.push_bytes-3.new.self ≡ (91 ∷ c.args.name.now) ++ 59 ∷ 32 ∷ [] = search rules in
    let digits = c.as_bytes.ensures.value ∙ c.format.ensures.text in
    let long : length c.push_bytes-3.new.self ≡ length c.args.name.now + 3
    = ap length before ∙ length-append (91 ∷ c.args.name.now) (59 ∷ 32 ∷ []) ∙ omega arith in
    c.push_bytes-4.ensures.answer.accepted.1 (
      omega (arith, long, ap length digits, digits_are_few c.args.count c.ranges.count.fits, c.requires.1),
      All-same IsStringByte _ _ digits (digits_are_text c.args.count c.ranges.count.fits),
    )

pub returns : goal.returns
returns c = grind (arith, common_steps)
