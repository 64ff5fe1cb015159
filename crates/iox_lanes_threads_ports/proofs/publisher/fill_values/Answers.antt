use Rattle.std.proofs.Common.{subst, sym, ◌∙◌}
use Rattle.iox_lanes_threads_ports.specs.Values.{HasRoom}
use Rattle.iox_lanes_threads_ports.proofs.publisher.fill_values.Goals as goal

pub returns-in-Begin-clause-refuses : goal.returns-in-Begin-clause-refuses
returns-in-Begin-clause-refuses g c = λ sizes room.
    let anew = c.write_anew.ensures.widths sizes.payload_words sizes.user_header_words (subst (HasRoom sizes) c.in-Begin.is room) in (
      anew.0,
      λ e payload header. anew.1 e (sym (g.met.T.Words.as_many c.args.value.now) ∙ payload)
          (sym (g.met.U.Words.as_many c.args.user_header.now) ∙ header),
    )
