use Rattle.std.proofs.Common.{◌≡◌, ◌∙◌, ap, arith}
use Rattle.iox_lanes_machine.specs.LanesBase.Subscribing.{word_at}
use Rattle.iox_lanes_machine.specs.LanesBase.Table.{TableWords, held_by}
use Rattle.iox_lanes_machine.specs.LanesBase.declared.words.sizes.TableSizes.{TableSizes}
use Rattle.iox_lanes_machine.specs.LanesBase.declared.words.word.SharedWord.TheVariants.{Slot}
use Rattle.iox_lanes_machine.specs.LanesBase.declared.words.word.SlotWord.{SlotWord}
use Rattle.iox_lanes_machine.specs.Held.{extent_of}
use Rattle.iox_lanes_machine.specs.Made.{listed}
use Rattle.iox_lanes_machine.specs.Reads.{width}
use Rattle.iox_lanes_machine.proofs.StartParts.{listed_more}
use Rattle.iox_lanes_laws.proofs.messages.message.held.Goals as goal

pub loop-word-init : goal.loop-word-init
loop-word-init c = (c.new-words.ensures.items, ap width c.sizes-sizes.ensures.value)

pub loop-word-preserved : goal.loop-word-preserved
loop-word-preserved c =
    let table : TableWords = c.args.table.now in
    let own : c.word_at-own.result ≡ word_at (extent_of table.sizes) c.loop-word.word
    = c.word_at-own.ensures ∙ ap (λ (sizes : TableSizes). word_at (extent_of sizes) c.loop-word.word) c.sizes-sizes.ensures.value in (
      listed_more (λ word. held_by table (Slot c.args.slot (word_at (extent_of table.sizes) word))) c.loop-word.word
          c.loop-word.words.items c.push.new.self.items c.word.result c.loop-word.invariant.0
          (c.word.ensures ∙ ap (λ (word : SlotWord). held_by table (Slot c.args.slot word)) own) c.in_ok-push.ensures.items,
      ap width c.sizes-sizes.ensures.value,
    )

pub returns : goal.returns
returns c =
    let table : TableWords = c.args.table.now in
    let last = c.loop-word.invariant.1 in
    let below = c.loop-word.auto.word-end in
    let past = c.loop-word-test.false in
    let all : c.loop-word.word ≡ width table.sizes = omega (arith, last, below, past) in
    c.loop-word.invariant.0
    ∙ ap (listed (λ word. held_by table (Slot c.args.slot (word_at (extent_of table.sizes) word)))) all
