use Rattle.std.proofs.Common.{sym, subst, ◌∙◌, ap}
use Rattle.atomic_table.specs.Seated.{TableId}
use Rattle.iox_lanes_parties.specs.LanesBase.Numbers.{IsWord}
use Rattle.iox_lanes_parties.specs.LanesBase.declared.words.sizes.TableSizes.{TableSizes}
use Rattle.iox_lanes_threads_rule.specs.Acts.{MayAct}
use Rattle.iox_lanes_threads_rule.proofs.Allowing.{exchanged_word, load_granted, load_told, store_granted, store_told, exchange_granted}
use Rattle.iox_lanes_threads_rule.proofs.Allowing.{exchange_told}
use Rattle.iox_lanes_threads_rule.proofs.board.act.Goals as goal

pub number-requires-clause-word : goal.number-requires-clause-word
number-requires-clause-word g c =
    let may = subst (MayAct g.M.Doing.port) c.in-Load.is c.requires.may in
    subst (λ (sizes : TableSizes). IsWord sizes c.in-Load.word) c.requires.seat.1 may

pub load-requires : goal.load-requires
load-requires g c =
    let granted = load_granted c.shared-table.result.now.table_id.slots c.args.seat.now.id c.shared-table.result.now.table_id.words
    c.args.sizes.now
    g.M.Doing.port g.M.Doing.after c.args.seat.now.me c.number.result c.in-Load.word c.requires.seat.0 c.requires.seat.1
    c.number.ensures (ap (λ (t : TableId). t.words) c.shared-table.ensures ∙ c.requires.table.1) c.args.access c.requires.may
    c.requires.next c.in-Load.is in
    (c.requires.table.0 ∙ sym c.shared-table.ensures, granted.0, granted.1)

pub returns-in-Load : goal.returns-in-Load
returns-in-Load g c =
    let its = load_told c.shared-table.result.now.table_id.slots c.args.seat.now.id c.shared-table.result.now.table_id.words
    c.args.sizes.now
    g.M.Doing.port g.M.Doing.after c.args.seat.now.me c.number.result c.in-Load.word c.requires.seat.0 c.requires.seat.1
    c.number.ensures (ap (λ (t : TableId). t.words) c.shared-table.ensures ∙ c.requires.table.1) c.args.access c.requires.may
    c.requires.next c.load.result c.load.new.seat.me c.in-Load.is c.load.ensures.2 in
    record { table = (c.load.ensures.0, c.load.ensures.1); port = its.0; told = its.1 }

pub number-requires-in-Store-clause-word : goal.number-requires-in-Store-clause-word
number-requires-in-Store-clause-word g c =
    let may = subst (MayAct g.M.Doing.port) c.in-Store.is c.requires.may in
    subst (λ (sizes : TableSizes). IsWord sizes c.in-Store.word) c.requires.seat.1 may.word

pub store-requires : goal.store-requires
store-requires g c =
    let granted = store_granted c.shared-table.result.now.table_id.slots c.args.seat.now.id c.shared-table.result.now.table_id.words
    c.args.sizes.now
    g.M.Doing.port g.M.Doing.after c.args.seat.now.me c.number-in-Store.result c.in-Store.word c.requires.seat.0 c.requires.seat.1
    c.number-in-Store.ensures (ap (λ (t : TableId). t.words) c.shared-table.ensures ∙ c.requires.table.1) c.args.access c.requires.may
    c.requires.next c.in-Store.new c.in-Store.is in
    (c.requires.table.0 ∙ sym c.shared-table.ensures, granted.0, granted.1)

pub returns-in-Store : goal.returns-in-Store
returns-in-Store g c =
    let its = store_told c.shared-table.result.now.table_id.slots c.args.seat.now.id c.shared-table.result.now.table_id.words
    c.args.sizes.now
    g.M.Doing.port g.M.Doing.after c.args.seat.now.me c.number-in-Store.result c.in-Store.word c.requires.seat.0 c.requires.seat.1
    c.number-in-Store.ensures (ap (λ (t : TableId). t.words) c.shared-table.ensures ∙ c.requires.table.1) c.args.access c.requires.may
    c.requires.next c.in-Store.new c.store.new.seat.me c.in-Store.is c.store.ensures.2 in
    record { table = (c.store.ensures.0, c.store.ensures.1); port = its.0; told = its.1 }

pub number-requires-in-Exchange-clause-word : goal.number-requires-in-Exchange-clause-word
number-requires-in-Exchange-clause-word g c =
    let may = subst (MayAct g.M.Doing.port) c.in-Exchange.is c.requires.may in
    subst (λ (sizes : TableSizes). IsWord sizes c.in-Exchange.word) c.requires.seat.1 (exchanged_word g.M.Doing.port c.in-Exchange.word
    c.in-Exchange.old c.in-Exchange.new may)

pub compare_exchange-requires : goal.compare_exchange-requires
compare_exchange-requires g c =
    let granted = exchange_granted c.shared-table.result.now.table_id.slots c.args.seat.now.id c.shared-table.result.now.table_id.words
    c.args.sizes.now
    g.M.Doing.port g.M.Doing.after c.args.seat.now.me c.number-in-Exchange.result c.in-Exchange.word c.requires.seat.0 c.requires.seat.1
    c.number-in-Exchange.ensures (ap (λ (t : TableId). t.words) c.shared-table.ensures ∙ c.requires.table.1) c.args.access c.requires.may
    c.requires.next c.in-Exchange.old c.in-Exchange.new c.in-Exchange.is in
    (c.requires.table.0 ∙ sym c.shared-table.ensures, granted.0, granted.1)

pub returns-in-Exchange : goal.returns-in-Exchange
returns-in-Exchange g c =
    let its = exchange_told c.shared-table.result.now.table_id.slots c.args.seat.now.id c.shared-table.result.now.table_id.words
    c.args.sizes.now
    g.M.Doing.port g.M.Doing.after c.args.seat.now.me c.number-in-Exchange.result c.in-Exchange.word c.requires.seat.0 c.requires.seat.1
    c.number-in-Exchange.ensures (ap (λ (t : TableId). t.words) c.shared-table.ensures ∙ c.requires.table.1) c.args.access c.requires.may
    c.requires.next c.in-Exchange.old c.in-Exchange.new c.compare_exchange.result c.compare_exchange.new.seat.me c.in-Exchange.is
    c.compare_exchange.ensures.2 in
    record { table = (c.compare_exchange.ensures.0, c.compare_exchange.ensures.1); port = its.0; told = its.1 }
