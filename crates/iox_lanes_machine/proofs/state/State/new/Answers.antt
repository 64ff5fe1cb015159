use Rattle.std.proofs.Common.{◌≡◌, [], refl, ◌∙◌, ap}
use Rattle.iox_lanes_machine.specs.LanesBase.Table.{TableWords}
use Rattle.iox_lanes_machine.specs.Made.{start, table_sizes}
use Rattle.iox_lanes_machine.specs.State.{world_of}
use Rattle.iox_lanes_machine.specs.World.{World}
use Rattle.iox_lanes_machine.proofs.Counted.{counted}
use Rattle.iox_lanes_machine.proofs.StartParts.{made_is}
use Rattle.iox_lanes_machine.proofs.state.State.new.Goals as goal

pub parties-requires : goal.parties-requires
parties-requires c =
    let table : c.sizes.result ≡ table_sizes c.args.sizes.now
    = c.sizes.ensures.value ∙ ap (λ (t : TableWords). t.sizes) c.in_ok-words.ensures ∙ c.requires in
    record { table = table; counted = counted c.args.sizes.now c.sizes.result table c.sizes.ensures.small }

pub returns : goal.returns
returns c =
    let made : World = record {
      table = c.in_ok-words.words;
      links = c.in_ok-connections.connections.0.items;
      publishers = c.in_ok-parties.parties.0.items;
      subscribers = c.in_ok-parties.parties.1.items;
      orders = c.in_ok-connections.connections.1.items;
      moments = 0;
      finished = [];
      read = [];
    } in
    let is : world_of c.from_parts.result ≡ start c.args.sizes.now
    = c.from_parts.ensures ∙ made_is c.args.sizes.now c.args.table.now made c.requires (record {
      words = c.in_ok-words.ensures;
      links = c.in_ok-connections.ensures.0;
      publishers = c.in_ok-parties.ensures.0;
      subscribers = c.in_ok-parties.ensures.1;
      orders = c.in_ok-connections.ensures.1;
      moments = refl;
      finished = refl;
      read = refl;
    }) in
    is
