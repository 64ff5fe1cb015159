use Rattle.std.proofs.Common.{◌∙◌, ℕ, List, drop, ap}
use Rattle.std.proofs.lemmas.List.{drop-drop}
use Rattle.iox_domain_slots.specs.Uses.{Uses}
use Rattle.iox_domain_slots.proofs.uses.SlotUses.forget_history.Goals as goal

-- the publisher with another history
abbrev with_history : Uses ℕ ℕ → List ℕ → Uses ℕ ℕ
with_history uses history = record uses { history = history }

pub loop-preserved : goal.loop-preserved
loop-preserved c = c.forget_oldest.ensures ∙ ap (λ u. with_history u (drop 1 u.history)) c.loop.invariant ∙ ap
    (with_history c.args.self.now) (drop-drop 1 c.loop.counter c.args.self.now.history)
