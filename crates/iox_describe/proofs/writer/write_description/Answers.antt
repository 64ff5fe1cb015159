-- The members of the description are added one after another.
use Rattle.std.proofs.Common.{ℕ, List, [], ◌∷◌, ap, ◌∙◌, subst}
use Rattle.std.specs.Prelude.{codes}
use Rattle.json.specs.Token.{begin_object, end_object, key}
use Rattle.serde_json.specs.Data.{string}
use Rattle.iox_describe_verdict.specs.DescribeBase.declared.attribute.Attribute.{Attribute}
use Rattle.iox_describe_verdict.specs.DescribeBase.Hash.{hash_text}
use Rattle.iox_describe_verdict.specs.DescribeSettings.Agreement.{pattern_of}
use Rattle.iox_describe_verdict.specs.DescribeSettings.Versions.{number_of}
use Rattle.iox_describe_verdict.specs.DescribeSettings.declared.static_config.Settings.{Settings}
use Rattle.iox_describe.specs.Line.{attributes_tree, natural, pattern_word, settings_tree}
use Rattle.iox_describe.specs.Writing.{member_tokens, value_tokens, Adds}
use Rattle.iox_describe.proofs.Adding.{after, wrote}
use Rattle.iox_describe.proofs.writer.write_description.Goals as goal

pub returns : goal.returns
returns c =
    let r = c.end_object.result in
    let end = c.end_object.new.self in
    let d = c.args.description.now in
    let attributes = subst (λ (a : List Attribute). Adds (value_tokens (attributes_tree a)) c.key.new.self c.write_attributes.new.out)
    (c.as_slice.ensures.value ∙ c.attributes.ensures) c.in_ok-write_attributes.ensures in
    let name = subst (λ (t : List ℕ). Adds (member_tokens (codes "name") (string t)) c.write_attributes.new.out c.write_text.new.out)
    (c.as_str.ensures ∙ c.name.ensures) c.in_ok-write_text.ensures in
    let pattern = subst (λ (t : List ℕ). Adds (member_tokens (codes "pattern") (string t)) c.write_text.new.out c.write_text-2.new.out)
    (c.pattern_word.ensures ∙ ap pattern_word c.pattern.ensures) c.in_ok-write_text-2.ensures in
    let hash = subst (λ (t : List ℕ). Adds (member_tokens (codes "service_hash") (string t)) c.write_text-2.new.out c.write_text-3.new.out)
    (c.as_str-2.ensures.value ∙ c.in_ok-hash.ensures ∙ ap hash_text c.service_hash.ensures) c.in_ok-write_text-3.ensures in
    let settings = subst (λ (s : Settings). Adds (value_tokens (settings_tree c.args.version s)) c.key-2.new.self c.write_settings.new.out)
    c.settings.ensures c.in_ok-write_settings.ensures in
    let version = subst (λ (n : ℕ). Adds (member_tokens (codes "version") (natural n)) c.write_settings.new.out c.write_number.new.out)
    c.number.ensures c.in_ok-write_number.ensures in
    after r (begin_object ∷ []) _ c.args.out.now c.begin_object.new.self end
    (c.in_ok-begin_object.ensures.room.0, c.in_ok-begin_object.ensures.ok)
    (after r (key (codes "attributes") ∷ []) _ c.begin_object.new.self c.key.new.self end
    (c.in_ok-key.ensures.room.0, c.in_ok-key.ensures.ok)
    (after r (value_tokens (attributes_tree d.attributes)) _ c.key.new.self c.write_attributes.new.out end attributes
    (after r (member_tokens (codes "name") (string d.name)) _ c.write_attributes.new.out c.write_text.new.out end name
    (after r (member_tokens (codes "pattern") (string (pattern_word (pattern_of d.settings)))) _ c.write_text.new.out c.write_text-2.new.out
    end pattern
    (after r (member_tokens (codes "service_hash") (string (hash_text d.service_hash))) _ c.write_text-2.new.out c.write_text-3.new.out
    end hash
    (after r (key (codes "settings") ∷ []) _ c.write_text-3.new.out c.key-2.new.self end
    (c.in_ok-key-2.ensures.room.0, c.in_ok-key-2.ensures.ok)
    (after r (value_tokens (settings_tree c.args.version d.settings)) _ c.key-2.new.self c.write_settings.new.out end settings
    (after r (member_tokens (codes "version") (natural (number_of c.args.version))) _ c.write_settings.new.out c.write_number.new.out end
    version (wrote r end_object c.write_number.new.out end c.end_object.ensures)))))))))
