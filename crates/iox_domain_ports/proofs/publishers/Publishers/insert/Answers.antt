use Rattle.std.proofs.Common.{arith, ◌<◌, ◌∙◌, length, ap}
use Rattle.iox_domain_ports.specs.Census.{publisher_share}
use Rattle.iox_domain_ports.proofs.Tallied.{added_told, publisher_small, roomier_told, roomy_next}
use Rattle.iox_domain_ports.proofs.publishers.Publishers.insert.Goals as goal

pub invariant_of-self : goal.invariant_of-self
invariant_of-self g c =
    roomier_told publisher_share c.note_lent.new.census c.make_room.new.self c.self.inside.ports c.note_lent.ensures.tells
    c.make_room.ensures.counts c.make_room.ensures.grows

pub invariant_of-self-in_err-put_port : goal.invariant_of-self-in_err-put_port
invariant_of-self-in_err-put_port g c =
    let roomier = roomier_told publisher_share c.note_lent.new.census c.make_room.new.self c.self.inside.ports c.note_lent.ensures.tells
    c.make_room.ensures.counts c.make_room.ensures.grows in
    rw c.in_err-put_port.ensures.stays roomier

pub note-requires : goal.note-requires
note-requires g c =
    let roomier = roomier_told publisher_share c.note_lent.new.census c.make_room.new.self c.self.inside.ports c.note_lent.ensures.tells
    c.make_room.ensures.counts c.make_room.ensures.grows in
    let small = publisher_small c.args.port in
    let room : length c.self.inside.ports < c.make_room.new.self.owners.room
    = omega (arith, c.in_ok-make_room.ensures.room, c.len.ensures) in
    roomy_next publisher_share c.make_room.new.self c.self.inside.ports c.share_of-share.result publisher_small roomier
    (omega (arith, small, ap (λ share. share.count) c.share_of-share.ensures)) room

pub invariant_of-self-2 : goal.invariant_of-self-2
invariant_of-self-2 g c =
    let roomier = roomier_told publisher_share c.note_lent.new.census c.make_room.new.self c.self.inside.ports c.note_lent.ensures.tells
    c.make_room.ensures.counts c.make_room.ensures.grows in
    let room : length c.self.inside.ports < c.make_room.new.self.owners.room
    = omega (arith, c.in_ok-make_room.ensures.room, c.len.ensures) in
    added_told publisher_share c.args.number c.make_room.new.self c.note.new.self c.self.inside.ports
    c.put_port.new.ports c.args.port c.share_of-share.result c.in_ok-put_port.ensures.sorted
    roomier (ap (λ census. census.lent) c.make_room.ensures.counts ∙ c.note_lent.ensures.lent)
    c.share_of-share.ensures room c.note.ensures.counts c.note.ensures.room c.note.ensures.lent c.note.ensures.noted
    c.in_ok-put_port.ensures.put c.in_ok-put_port.ensures.there
