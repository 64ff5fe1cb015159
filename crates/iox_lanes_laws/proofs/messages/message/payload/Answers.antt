use Rattle.std.proofs.Common.{◌≡◌, ◌∙◌, ap, arith}
use Rattle.iox_lanes_machine.specs.LanesBase.Table.{TableWords, held_by}
use Rattle.iox_lanes_machine.specs.LanesBase.declared.words.sizes.TableSizes.{TableSizes}
use Rattle.iox_lanes_machine.specs.LanesBase.declared.words.word.SharedWord.TheVariants.{Slot}
use Rattle.iox_lanes_machine.specs.LanesBase.declared.words.word.SlotWord.TheVariants.{Payload}
use Rattle.iox_lanes_machine.specs.Made.{listed}
use Rattle.iox_lanes_machine.proofs.StartParts.{listed_more}
use Rattle.iox_lanes_laws.proofs.messages.message.payload.Goals as goal

pub loop-word-init : goal.loop-word-init
loop-word-init c = (c.new-words.ensures.items, ap (λ (sizes : TableSizes). sizes.payload_words) c.sizes-word-end.ensures.value)

pub loop-word-preserved : goal.loop-word-preserved
loop-word-preserved c = (
  listed_more (λ word. held_by c.args.table.now (Slot c.args.slot (Payload word))) c.loop-word.word c.loop-word.words.items
      c.push.new.self.items c.word.result c.loop-word.invariant.0 c.word.ensures c.in_ok-push.ensures.items,
  ap (λ (sizes : TableSizes). sizes.payload_words) c.sizes-word-end.ensures.value,
)

pub returns : goal.returns
returns c =
    let table : TableWords = c.args.table.now in
    let last = c.loop-word.invariant.1 in
    let below = c.loop-word.auto.word-end in
    let past = c.loop-word-test.false in
    let all : c.loop-word.word ≡ table.sizes.payload_words = omega (arith, last, below, past) in
    c.loop-word.invariant.0 ∙ ap (listed (λ word. held_by table (Slot c.args.slot (Payload word)))) all
