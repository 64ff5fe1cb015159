use Rattle.std.proofs.Common.{◌≡◌, ◌<◌, ◌+◌, arith, sym, ap, subst, length, [], ◌∷◌, false-eqb, append_assoc, length-drop}
use Rattle.std.specs.List.{position_or_len}
use Rattle.std.proofs.lemmas.List.{append-nil, nil_from_length}
use Rattle.std.proofs.lemmas.Bool.{eqb-true}
use Rattle.example_tracer.specs.Exchange.{is_byte}
use Rattle.example_tracer.specs.Conversation.{IsConversation, nothing, row}
use Rattle.example_tracer.proofs.exchange.conversation.Goals as goal

pub loop-rest-init : goal.loop-rest-init
loop-rest-init c = λ others rest. rw c.new-rows.ensures.items rest

-- the row joins the rows so far
pub loop-rest-preserved : goal.loop-rest-preserved
loop-rest-preserved c = λ others rest.
    let some : 0 < length c.loop-rest.rest.now = omega (arith, false-eqb _ 0 c.loop-rest-test.ensures) in
    let behind : IsConversation c.loop-rest.rest.now (c.paired.result ∷ others) =
    row some (rw (← c.cut.ensures.before) (c.paired.ensures.line, c.paired.ensures.reply)) (rw (← c.cut.ensures.after) rest) in
    rw (c.in_ok-push.ensures.items, append_assoc) (c.loop-rest.invariant (c.paired.result ∷ others) behind)

pub loop-rest-smaller : goal.loop-rest-smaller
loop-rest-smaller c =
    let some : 0 < length c.loop-rest.rest.now = omega (arith, false-eqb _ 0 c.loop-rest-test.ensures) in
    omega (arith, ap length c.cut.ensures.after, length-drop (position_or_len (is_byte 10) c.loop-rest.rest.now + 1) c.loop-rest.rest.now)

pub returns : goal.returns
returns c =
    let gone : c.loop-rest.rest.now ≡ [] = nil_from_length _ (eqb-true _ 0 (sym c.loop-rest-test.ensures)) in
    subst (λ rows. IsConversation c.args.text.now rows) (append-nil c.loop-rest.rows.items) (c.loop-rest.invariant [] (rw gone nothing))
