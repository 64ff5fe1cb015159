-- The list of all settings is that of the pattern.
use Rattle.std.proofs.Common.{List, sym, subst}
use Rattle.std.specs.Prelude.{OnOk}
use Rattle.serde_json.specs.Data.{object}
use Rattle.iox_describe_verdict.specs.DescribeSettings.RequestResponseSettings.{key, value}
use Rattle.iox_describe_verdict.specs.DescribeSettings.declared.static_config.Settings.{Settings}
use Rattle.iox_describe_verdict.specs.DescribeSettings.declared.static_config.request_response.Setting.{Setting}
use Rattle.iox_describe.specs.Line.{settings_members, settings_tree}
use Rattle.iox_describe.specs.Writing.{value_tokens, Adds}
use Rattle.iox_describe.proofs.writer.write_settings.Goals as goal

pub returns-in-RequestResponse : goal.returns-in-RequestResponse
returns-in-RequestResponse c =
    let config = c.in-RequestResponse.config in
    subst (λ (s : Settings).
    OnOk c.write_object.result (Adds (value_tokens (settings_tree c.args.version s)) c.args.out.now c.write_object.new.out))
    (sym c.in-RequestResponse.is)
    (subst (λ (l : List Setting).
    OnOk c.write_object.result
    (Adds (value_tokens (object (settings_members key value l config))) c.args.out.now c.write_object.new.out))
    c.all.ensures c.write_object.ensures)
