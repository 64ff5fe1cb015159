-- The key is added, and then the members of the detail one after another.
use Rattle.std.proofs.Common.{ℕ, List, [], ◌∷◌, ap, ◌∙◌, subst}
use Rattle.std.specs.Prelude.{codes}
use Rattle.json.specs.Token.{begin_object, end_object, key}
use Rattle.serde_json.specs.Data.{string}
use Rattle.iox_describe.specs.Line.{natural, variant_word}
use Rattle.iox_describe.specs.Writing.{member_tokens, Adds}
use Rattle.iox_describe.proofs.Adding.{after, wrote}
use Rattle.iox_describe.proofs.writer.write_detail.Goals as goal

pub returns : goal.returns
returns c =
    let r = c.end_object.result in
    let end = c.end_object.new.self in
    let d = c.args.detail.now in
    let alignment = subst (λ (n : ℕ). Adds (member_tokens (codes "alignment") (natural n)) c.begin_object.new.self c.write_number.new.out)
    c.alignment.ensures.value c.in_ok-write_number.ensures in
    let name = subst (λ (t : List ℕ). Adds (member_tokens (codes "name") (string t)) c.write_number.new.out c.write_text.new.out)
    c.type_text.ensures c.in_ok-write_text.ensures in
    let size = subst (λ (n : ℕ). Adds (member_tokens (codes "size") (natural n)) c.write_text.new.out c.write_number-2.new.out)
    c.size.ensures c.in_ok-write_number-2.ensures in
    let variant = subst (λ (t : List ℕ). Adds (member_tokens (codes "variant") (string t)) c.write_number-2.new.out c.write_text-2.new.out)
    (c.variant_word.ensures ∙ ap variant_word c.variant.ensures) c.in_ok-write_text-2.ensures in
    after r (key c.args.key.now ∷ []) _ c.args.out.now c.key.new.self end (c.in_ok-key.ensures.room.0, c.in_ok-key.ensures.ok)
    (after r (begin_object ∷ []) _ c.key.new.self c.begin_object.new.self end
    (c.in_ok-begin_object.ensures.room.0, c.in_ok-begin_object.ensures.ok)
    (after r (member_tokens (codes "alignment") (natural d.alignment)) _ c.begin_object.new.self c.write_number.new.out end alignment
    (after r (member_tokens (codes "name") (string d.name)) _ c.write_number.new.out c.write_text.new.out end name
    (after r (member_tokens (codes "size") (natural d.size)) _ c.write_text.new.out c.write_number-2.new.out end size
    (after r (member_tokens (codes "variant") (string (variant_word d.variant))) _ c.write_number-2.new.out c.write_text-2.new.out end
    variant (wrote r end_object c.write_text-2.new.out end c.end_object.ensures))))))
