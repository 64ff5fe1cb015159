use Rattle.std.proofs.Common.{sym, ap, ◌∙◌}
use Rattle.iox_hub_base.proofs.Same.{same-true, same-refl}
use Rattle.iox_hub_base.proofs.Takings.{one_agreement}
use Rattle.iox_hub_base.specs.declared.presence.Presence.TheVariants.{Out}
use Rattle.iox_hub_base.proofs.presence.Presence.awaits.Goals as goal

pub returns-in-Out : goal.returns-in-Out
returns-in-Out g c = (
  λ same. c.in-Out.is ∙ ap Out (same-true c.in-Out.awaited c.args.agreed.now (sym c.is_same.ensures ∙ same)),
  λ is. c.is_same.ensures ∙ same-refl c.in-Out.awaited c.args.agreed.now
      (one_agreement c.in-Out.awaited c.args.agreed.now c.args.self.now c.in-Out.is is),
)
