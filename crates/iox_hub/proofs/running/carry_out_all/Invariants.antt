use Rattle.std.proofs.Common.{◌≡◌, ◌+◌, ◌≤◌, ◌++◌, length, vec_len, vec_capacity}
use Rattle.std.specs.Vec.Iter.{into_iter_items, into_iter_len}
use Rattle.iox_hub_commands.specs.Grown.{GrowsOn}
use Rattle.iox_hub_commands.specs.Numbers.{numbers_used}
use Rattle.iox_hub_commands.specs.PortRoom.{KeepsRoom}
use Rattle.iox_hub_commands.specs.Runs.{Runs}
use Rattle.iox_hub_commands.specs.Terms.{terms_of}
use Rattle.iox_hub.specs.Room.{HandledStepInRoom}
use Rattle.iox_hub.specs.Steps.{HandledStep}
use Rattle.iox_hub.proofs.running.carry_out_all.Given as goal

-- what was taken from the list was carried out and replied to
abbrev pub invariant-loop-command : goal.invariant-loop-command
invariant-loop-command g l = record {
  all : l.yielded ++ into_iter_items l.command-iterator ≡ into_iter_items l.initial.command-iterator;
  left : into_iter_len l.command-iterator ≡ length (into_iter_items l.command-iterator);
  ran : Runs (HandledStep (terms_of g.T.ZeroCopySend.name g.T.ZeroCopySend.size g.T.ZeroCopySend.alignment
      (λ value. g.T.Default.is_default value) g.U.ZeroCopySend.name g.U.ZeroCopySend.size g.U.ZeroCopySend.alignment
      (λ value. g.U.Default.is_default value) g.B.PublisherHandlers.fixed (λ handlers. g.B.Degrades.degrades handlers)
      (λ handlers. g.B.Decides.decides handlers) g.D.SubscriberHandler.fixed (λ handler. g.D.Degrades.degrades handler))
      (λ strategy action degrading at_full at_failure. g.B.TakesHandlers.handled strategy action degrading at_full at_failure)) l.yielded
      (l.initial.hub, l.initial.given.places.items) l.replies.items (l.hub, l.given.places.items);
  each : Runs (HandledStepInRoom (terms_of g.T.ZeroCopySend.name g.T.ZeroCopySend.size g.T.ZeroCopySend.alignment
      (λ value. g.T.Default.is_default value) g.U.ZeroCopySend.name g.U.ZeroCopySend.size g.U.ZeroCopySend.alignment
      (λ value. g.U.Default.is_default value) g.B.PublisherHandlers.fixed (λ handlers. g.B.Degrades.degrades handlers)
      (λ handlers. g.B.Decides.decides handlers) g.D.SubscriberHandler.fixed (λ handler. g.D.Degrades.degrades handler))
      (λ strategy action degrading at_full at_failure. g.B.TakesHandlers.handled strategy action degrading at_full at_failure)) l.yielded
      (l.initial.hub, l.initial.given.places.items) l.replies.items (l.hub, l.given.places.items);
  counts : numbers_used l.hub ≤ numbers_used l.initial.hub + length l.yielded;
  answered : vec_len l.replies ≡ length l.yielded;
  room : length (into_iter_items l.initial.command-iterator) ≤ vec_capacity l.replies;
  grows : GrowsOn l.initial.hub.hub l.hub.hub;
  kept : KeepsRoom l.initial.hub l.hub;
}
