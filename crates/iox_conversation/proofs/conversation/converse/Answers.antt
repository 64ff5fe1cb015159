use Rattle.std.proofs.Common.{◌∙◌, ◌≡◌, ◌+◌, ◌<◌, ◌≤◌, ◌++◌, [], Ok, Some, true, length, take, ap, refl, sym, inl, inr, arith, append_assoc}
use Rattle.std.proofs.Common.{length-append, length-take-le}
use Rattle.std.proofs.KnownBytes.{Consumes-kept, Consumes-trans, Appends-trans}
use Rattle.std.proofs.lemmas.List.{append-nil}
use Rattle.iox_conversation.proofs.Advancing.{Advances-append, BreaksOff-answered, OnOk-told, OnErr-told, AreBegun-told}
use Rattle.iox_conversation.specs.declared.error.ServeError.TheVariants.{ReadFault, OutOfMemory}
use Rattle.iox_conversation.proofs.conversation.converse.Goals as goal

pub returns-then-count-eq0-clause-conversation : goal.returns-then-count-eq0-clause-conversation
returns-then-count-eq0-clause-conversation g c =
    let so_far = c.loop-turn.invariant in
    let last = c.in-Ok-finish.ensures.answers in
    let nothing = rw c.if-count-eq0.true at (rw c.in-Some.is at c.in-Ok.ensures.bytes) in
    let some : 0 < length c.loop-turn.piece = omega (arith, c.loop-turn.auto.piece, c.requires.piece) in
    let told = c.deref.ensures.value ∙ (last.1 ∙ ap (λ items. items ++ last.0) so_far.empty) in
    record {
      bytes = so_far.bytes;
      text = so_far.text;
      last = last.0;
      mid = c.loop-turn.session;
      consumed = rw (append-nil so_far.bytes) at (Consumes-trans _ _ _ so_far.bytes [] so_far.consumed nothing);
      all = c.in-Ok.ensures.end (ap Ok (c.in-Some.is ∙ ap Some c.if-count-eq0.true)) some;
      few = omega (arith, so_far.few, c.loop-turn.auto.turn-end);
      written = Appends-trans _ _ _ _ _ so_far.written (rw told at (c.write_all.ensures.written c.if-not-write_all.false));
      advances = so_far.advances;
      ends = last.2;
    }

pub loop-turn-preserved : goal.loop-turn-preserved
loop-turn-preserved g c =
    let so_far = c.loop-turn.invariant in
    let bound = rw c.in-Some.is at c.in-Ok.ensures.bound in
    let taken = rw c.in-Some.is at c.in-Ok.ensures.bytes in
    let next = OnOk-told c.take_bytes-answered.result (sym c.if-is_err.ensures.value) c.take_bytes-answered.ensures.answers in
    let whole = length-take-le c.in-Some.count c.read.new.buffer bound in
    let told = c.deref-in-loop-turn.ensures.value ∙ (next.1 ∙ ap (λ items. items ++ next.0) so_far.empty) in
    record {
      bytes = so_far.bytes ++ take c.in-Some.count c.read.new.buffer;
      text = so_far.text ++ next.0;
      consumed = Consumes-trans _ _ _ _ _ so_far.consumed taken;
      written = Appends-trans _ _ _ _ _ so_far.written (rw told at (c.write_all-in-loop-turn.ensures.written c.if-not-write_all-2.false));
      advances = Advances-append _ _ _ _ _ _ _ _ _ so_far.advances next.2;
      whole = c.take_bytes-answered.ensures.whole;
      empty = c.clear.ensures.items;
      few = omega (
        arith,
        so_far.few,
        whole,
        length-append so_far.bytes (take c.in-Some.count c.read.new.buffer),
        bound,
        c.read.auto.buffer,
        c.loop-turn.auto.piece,
        c.requires.piece,
      );
      calls = omega (arith, so_far.calls, c.in-Ok.ensures.calls);
    }

pub returns-in_default-clause-broken : goal.returns-in_default-clause-broken
returns-in_default-clause-broken g c =
    let so_far = c.loop-turn.invariant in
    BreaksOff-answered _ _ ReadFault _ _ _ _ _ _ _ _ _ (Consumes-kept _ _ _ so_far.bytes so_far.consumed c.in_default.ensures.kept)
    (omega (arith, so_far.few, c.loop-turn.auto.turn-end))
    so_far.written so_far.advances so_far.whole
    (λ is. absurd (cc))

pub returns-in_default-finish-clause-broken : goal.returns-in_default-finish-clause-broken
returns-in_default-finish-clause-broken g c =
    let so_far = c.loop-turn.invariant in
    let nothing = rw c.if-count-eq0.true at (rw c.in-Some.is at c.in-Ok.ensures.bytes) in
    let ended : c.read.new.self.ended ≡ true = rw c.if-count-eq0.true at (rw c.in-Some.is at c.in-Ok.ensures.ended) in
    BreaksOff-answered _ _ OutOfMemory _ _ _ _ _ _ _ _ _
    (rw (append-nil so_far.bytes) at (Consumes-trans _ _ _ so_far.bytes [] so_far.consumed nothing))
    (omega (arith, so_far.few, c.loop-turn.auto.turn-end)) so_far.written so_far.advances so_far.whole
    (λ _. inl (inr (refl, ended, c.in_default-finish.ensures.kept.1)))

pub returns-then-not-write_all-clause-broken : goal.returns-then-not-write_all-clause-broken
returns-then-not-write_all-clause-broken g c =
    let so_far = c.loop-turn.invariant in
    let last = c.in-Ok-finish.ensures.answers in
    let nothing = rw c.if-count-eq0.true at (rw c.in-Some.is at c.in-Ok.ensures.bytes) in
    let ended : c.read.new.self.ended ≡ true = rw c.if-count-eq0.true at (rw c.in-Some.is at c.in-Ok.ensures.ended) in
    let told = c.deref.ensures.value ∙ (last.1 ∙ ap (λ items. items ++ last.0) so_far.empty) in
    let begun = c.write_all.ensures.begun in
    record {
      bytes = so_far.bytes;
      text = so_far.text;
      piece = [];
      part = begun.0;
      mid = c.loop-turn.session;
      consumed = Consumes-trans _ _ _ so_far.bytes [] so_far.consumed nothing;
      few = omega (arith, so_far.few, c.loop-turn.auto.turn-end, length-append so_far.bytes []);
      written = Appends-trans _ _ _ _ _ so_far.written begun.3;
      advances = so_far.advances;
      whole = so_far.whole;
      short = omega arith;
      read = λ _. refl;
      begun = inr (refl, (begun.1, inr (refl, ended, rw (sym told ∙ begun.2) at last.2)));
      due = λ is. absurd (cc);
    }

pub returns-then-not-write_all-2-clause-broken : goal.returns-then-not-write_all-2-clause-broken
returns-then-not-write_all-2-clause-broken g c =
    let so_far = c.loop-turn.invariant in
    let bound = rw c.in-Some.is at c.in-Ok.ensures.bound in
    let taken = rw c.in-Some.is at c.in-Ok.ensures.bytes in
    let begun = c.write_all-in-loop-turn.ensures.begun in
    let short : length (take c.in-Some.count c.read.new.buffer) ≤ 65536 =
    omega (
      arith,
      length-take-le c.in-Some.count c.read.new.buffer bound,
      bound,
      c.read.auto.buffer,
      c.loop-turn.auto.piece,
      c.requires.piece,
    ) in
    record {
      bytes = so_far.bytes;
      text = so_far.text;
      piece = take c.in-Some.count c.read.new.buffer;
      part = begun.0;
      mid = c.loop-turn.session;
      consumed = Consumes-trans _ _ _ _ _ so_far.consumed taken;
      few = omega (
        arith,
        so_far.few,
        c.loop-turn-test.true,
        short,
        length-append so_far.bytes (take c.in-Some.count c.read.new.buffer),
      );
      written = Appends-trans _ _ _ _ _ so_far.written begun.3;
      advances = so_far.advances;
      whole = so_far.whole;
      short = short;
      read = λ is. absurd (cc);
      begun = inr (
        refl,
        AreBegun-told _ _ _ _ _ _ _ _ begun.0 begun.1 c.take_bytes-answered.result c.take_bytes-answered.ensures.answers
            c.take_bytes-answered.ensures.kept
            c.take_bytes-answered.ensures.whole so_far.empty (sym c.deref-in-loop-turn.ensures.value ∙ begun.2),
      );
      due = λ is. absurd (cc);
    }

pub returns-then-is_err-clause-broken : goal.returns-then-is_err-clause-broken
returns-then-is_err-clause-broken g c =
    let so_far = c.loop-turn.invariant in
    let bound = rw c.in-Some.is at c.in-Ok.ensures.bound in
    let taken = rw c.in-Some.is at c.in-Ok.ensures.bytes in
    let stopped = OnErr-told c.take_bytes-answered.result (sym c.if-is_err.ensures.value) c.take_bytes-answered.ensures.kept in
    let short = stopped.2 in
    let told = c.deref-in-loop-turn.ensures.value ∙ (stopped.1 ∙ ap (λ items. items ++ stopped.0) so_far.empty) in
    let whole : length short.first + length short.more ≤ 65536 =
    omega (
      arith,
      length-take-le c.in-Some.count c.read.new.buffer bound,
      ap (λ bytes. length bytes) short.all,
      length-append short.first short.more,
      bound,
      c.read.auto.buffer,
      c.loop-turn.auto.piece,
      c.requires.piece,
    ) in
    record {
      bytes = so_far.bytes ++ short.first;
      text = so_far.text ++ stopped.0;
      piece = short.more;
      part = [];
      mid = short.mid;
      consumed = rw (append_assoc so_far.bytes short.first short.more, ← short.all) (Consumes-trans _ _ _ _ _ so_far.consumed taken);
      few = omega (
        arith,
        so_far.few,
        c.loop-turn-test.true,
        whole,
        length-append (so_far.bytes ++ short.first) short.more,
        length-append so_far.bytes short.first,
      );
      written = rw (append-nil (so_far.text ++ stopped.0))
          (Appends-trans _ _ _ _ _ so_far.written (rw told at (c.write_all-in-loop-turn.ensures.written c.if-not-write_all-2.false)));
      advances = Advances-append _ _ _ _ _ _ _ _ _ so_far.advances short.advances;
      whole = short.whole;
      short = omega (arith, whole);
      read = λ is. absurd (cc);
      begun = inl refl;
      due = λ _. inl (inl short.due);
    }

pub returns-clause-broken : goal.returns-clause-broken
returns-clause-broken g c =
    let so_far = c.loop-turn.invariant in
    BreaksOff-answered _ _ ReadFault _ _ _ _ _ _ _ _ _ so_far.consumed (omega (arith, so_far.few, c.loop-turn.auto.turn-end))
    so_far.written so_far.advances so_far.whole (λ is. absurd (cc))
