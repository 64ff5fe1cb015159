-- What the machine answers where messages are sent in another order than they were lent.
use Rattle.std.proofs.Common.{[], refl, inl, inr, None, Some, Ok}
use Rattle.iox_machine.specs.MessageLaws.{OrderIsOfSends, swapped_commands}
use Rattle.iox_command.specs.declared.reply.Reply.TheVariants as reply

pub order-of-sends : OrderIsOfSends
order-of-sends buffer first second one two = (
  swapped_commands,
  [],
  _,
  refl,
  refl,
  (
    reply.NodeMade 1,
    _,
    _,
    inl (refl, refl),
    (
      reply.FactoryMade 1,
      _,
      _,
      inr (Ok _, _, inl (inl (inl (refl, refl))), inl (refl, refl)),
      (
        reply.SubscriberMade 1,
        _,
        _,
        (_, inr (0, refl, _, _, ([], refl, _, refl, refl, refl), refl, refl), refl),
        (
          reply.PublisherMade 1,
          _,
          _,
          (_, inr (0, refl, _, _, ([], refl, refl, refl), refl, refl), refl),
          (
            reply.LoanMade 1,
            _,
            _,
            (_, (None, _, (refl, refl), (refl, refl)), refl),
            (
              reply.LoanMade 2,
              _,
              _,
              (_, (None, _, (refl, refl), (refl, refl)), refl),
              (
                reply.Done,
                _,
                _,
                (_, (refl, refl), refl),
                (
                  reply.Done,
                  _,
                  _,
                  (_, (refl, refl), refl),
                  (
                    reply.Delivered 1,
                    _,
                    _,
                    (_, (_, _, (refl, refl), refl, refl), refl),
                    (
                      reply.Delivered 1,
                      _,
                      _,
                      (_, (_, _, (refl, refl), refl, refl), refl),
                      (
                        reply.Received 1 second,
                        _,
                        _,
                        (
                          _,
                          (_, _, ([], refl, _, refl, refl, refl), (Ok tt, refl, (Some 1, refl, (_, second, refl, two, refl, refl)))),
                          refl,
                        ),
                        (
                          reply.Received 2 first,
                          _,
                          _,
                          (_, (Some 1, refl, (_, first, refl, one, refl, refl)), refl),
                          (refl, refl),
                          refl,
                        ),
                        refl,
                      ),
                      refl,
                    ),
                    refl,
                  ),
                  refl,
                ),
                refl,
              ),
              refl,
            ),
            refl,
          ),
          refl,
        ),
        refl,
      ),
      refl,
    ),
    refl,
  ),
)
