use Rattle.std.proofs.Common.{arith, rules, ◌+◌, ◌≡◌, List, [], ◌∷◌, ◌++◌, length, ap, sym, subst, refl, inr, ◌∙◌, append_assoc, append-nil}
use Rattle.std.specs.Vec.Iter.{into_iter_items}
use Rattle.std.proofs.lemmas.List.{length-append}
use Rattle.iox_hub_commands.specs.Runs.{Runs}
use Rattle.iox_hub_commands.specs.Terms.{terms_of}
use Rattle.iox_hub_commands.proofs.PortRooms.{keeps_on}
use Rattle.iox_hub_commands.proofs.Rooms.{at_seam}
use Rattle.iox_hub_commands.proofs.RunLemmas.{runs_more}
use Rattle.iox_hub.proofs.HandledRooms.{lacks_for_values}
use Rattle.iox_hub.specs.Room.{HandledStepInRoom}
use Rattle.iox_hub.specs.Steps.{HandledStep}
use Rattle.iox_hub.proofs.running.carry_out_all.Goals as goal

pub loop-command-preserved : goal.loop-command-preserved
loop-command-preserved g c =
    let at = c.loop-command in
    let command = c.in-Some.command in
    let steps : into_iter_items at.command-iterator ≡ command ∷ into_iter_items c.next.new.self = c.in-Some.ensures.steps.0 in
    let longer : length (at.yielded ++ command ∷ []) ≡ length at.yielded + 1 = length-append at.yielded (command ∷ []) in record {
      all = append_assoc at.yielded (command ∷ []) _ ∙ rw (← steps) at.invariant.all;
      left = let short = ap length steps in omega (arith, at.invariant.left, c.in-Some.ensures.steps.1, short);
      ran = rw c.push_reserved.ensures.items
          (runs_more (HandledStep (terms_of g.T.ZeroCopySend.name g.T.ZeroCopySend.size g.T.ZeroCopySend.alignment
          (λ value. g.T.Default.is_default value) g.U.ZeroCopySend.name g.U.ZeroCopySend.size g.U.ZeroCopySend.alignment
          (λ value. g.U.Default.is_default value) g.B.PublisherHandlers.fixed (λ handlers. g.B.Degrades.degrades handlers)
          (λ handlers. g.B.Decides.decides handlers) g.D.SubscriberHandler.fixed (λ handler. g.D.Degrades.degrades handler))
          (λ strategy action degrading at_full at_failure. g.B.TakesHandlers.handled strategy action degrading at_full at_failure))
          at.yielded command (c.args.hub.now, c.args.given.now.places.items) (at.hub, at.given.places.items)
          (c.step.new.hub, c.step.new.given.places.items) at.replies.items c.in-Ok-step.reply at.invariant.ran
          c.in-Ok-step.ensures.steps);
      each = rw c.push_reserved.ensures.items
          (runs_more (HandledStepInRoom (terms_of g.T.ZeroCopySend.name g.T.ZeroCopySend.size g.T.ZeroCopySend.alignment
          (λ value. g.T.Default.is_default value) g.U.ZeroCopySend.name g.U.ZeroCopySend.size g.U.ZeroCopySend.alignment
          (λ value. g.U.Default.is_default value) g.B.PublisherHandlers.fixed (λ handlers. g.B.Degrades.degrades handlers)
          (λ handlers. g.B.Decides.decides handlers) g.D.SubscriberHandler.fixed (λ handler. g.D.Degrades.degrades handler))
          (λ strategy action degrading at_full at_failure. g.B.TakesHandlers.handled strategy action degrading at_full at_failure))
          at.yielded command (c.args.hub.now, c.args.given.now.places.items) (at.hub, at.given.places.items)
          (c.step.new.hub, c.step.new.given.places.items) at.replies.items c.in-Ok-step.reply at.invariant.each
          (record {
            step = c.in-Ok-step.ensures.steps;
            room = c.step.ensures.room;
            lacks = c.in-Ok-step.ensures.lacks;
          }));
      counts = omega (arith, at.invariant.counts, c.step.ensures.counts, longer);
      answered = omega (arith, at.invariant.answered, c.push_reserved.ensures.len, longer);
      room = omega (arith, at.invariant.room, c.push_reserved.ensures.capacity);
      grows = λ grown. c.step.ensures.grows (at.invariant.grows grown);
      kept = keeps_on c.args.hub.now at.hub c.step.new.hub at.invariant.grows at.invariant.kept c.step.ensures.room;
    }

pub returns-in_default-step-clause-ran : goal.returns-in_default-step-clause-ran
returns-in_default-step-clause-ran g c =
    let at = c.loop-command in
    inr (
      at.yielded,
      c.in-Some.command,
      into_iter_items c.next.new.self,
      (at.hub, at.given.places.items),
      c.in_default-step.field-0,
      sym c.into_iter-command-iterator.ensures.into_iter_gives.0 ∙
          (sym at.invariant.all ∙ ap (λ left. at.yielded ++ left) c.in-Some.ensures.steps.0),
      at.invariant.ran,
      c.in_default-step.ensures.steps,
    )

pub returns-in_default-step-clause-each : goal.returns-in_default-step-clause-each
returns-in_default-step-clause-each g c =
    let at = c.loop-command in
    inr (
      at.yielded,
      c.in-Some.command,
      into_iter_items c.next.new.self,
      (at.hub, at.given.places.items),
      c.in_default-step.field-0,
      sym c.into_iter-command-iterator.ensures.into_iter_gives.0 ∙
          (sym at.invariant.all ∙ ap (λ left. at.yielded ++ left) c.in-Some.ensures.steps.0),
      at.invariant.each,
      record {
        step = c.in_default-step.ensures.steps;
        room = c.step.ensures.room;
        lacks = c.in_default-step.ensures.lacks;
      },
    )

pub returns-in_default-step-clause-stops : goal.returns-in_default-step-clause-stops
returns-in_default-step-clause-stops g c = λ (loans, samples) grown stopped.
    let at = c.loop-command in
    let command = c.in-Some.command in
    let steps : into_iter_items at.command-iterator ≡ command ∷ into_iter_items c.next.new.self = c.in-Some.ensures.steps.0 in
    let given : into_iter_items c.into_iter-command-iterator.result ≡ c.args.commands.items = search rules in
    let all : at.yielded ++ command ∷ into_iter_items c.next.new.self ≡ c.args.commands.items = rw (← steps) (at.invariant.all ∙ given) in
    let count : length at.replies.items ≡ length at.yielded = omega (arith, at.invariant.answered, at.replies.ok) in
    inr (
      command,
      rw (← all, count) (at_seam at.yielded command (into_iter_items c.next.new.self)),
      lacks_for_values command at.hub c.step.new.hub
          (c.in_default-step.ensures.lacks (at.invariant.kept.0 loans, at.invariant.kept.1 grown samples)),
    )

pub returns-in_default-step-clause-room : goal.returns-in_default-step-clause-room
returns-in_default-step-clause-room g c
    = keeps_on c.args.hub.now c.loop-command.hub c.step.new.hub c.loop-command.invariant.grows c.loop-command.invariant.kept
    c.step.ensures.room

nothing_left : {X : Type 0} (left : List X) → length left ≡ 0 → left ≡ []
nothing_left [] none = refl
nothing_left (one ∷ rest) none = absurd (omega (arith, none))

pub returns-clause-each : goal.returns-clause-each
returns-clause-each g c =
    let at = c.loop-command in
    let empty : into_iter_items at.command-iterator ≡ [] = nothing_left _ (sym at.invariant.left ∙ c.in-None.ensures.steps.0) in
    let all = sym (append-nil at.yielded) ∙ rw empty at at.invariant.all ∙ c.into_iter-command-iterator.ensures.into_iter_gives.0 in
    subst (λ commands. Runs (HandledStepInRoom (terms_of g.T.ZeroCopySend.name g.T.ZeroCopySend.size g.T.ZeroCopySend.alignment
    (λ value. g.T.Default.is_default value) g.U.ZeroCopySend.name g.U.ZeroCopySend.size g.U.ZeroCopySend.alignment
    (λ value. g.U.Default.is_default value) g.B.PublisherHandlers.fixed (λ handlers. g.B.Degrades.degrades handlers)
    (λ handlers. g.B.Decides.decides handlers) g.D.SubscriberHandler.fixed (λ handler. g.D.Degrades.degrades handler))
    (λ strategy action degrading at_full at_failure. g.B.TakesHandlers.handled strategy action degrading at_full at_failure)) commands
    (c.args.hub.now, c.args.given.now.places.items) at.replies.items (at.hub, at.given.places.items)) all at.invariant.each
