-- The bytes of each reply, without its newline.
use Rattle.std.specs.Prelude.{ℕ, true, false, List, None, Some, ◌++◌, flat_map, codes, decimal}
use Rattle.std.specs.Vec.{vec_items}
use Rattle.iox_command.specs.declared.reply.Reply.{Reply}
use Rattle.iox_command.specs.declared.reply.Reply.TheVariants as reply
use Rattle.iox_line.specs.RefusalText.{refusal_text}

-- The text of a reply; each value is written after a space.
abbrev pub reply_text : Reply ℕ → List ℕ
reply_text (reply.NodeMade number) = codes "ok n" ++ decimal number
reply_text (reply.FactoryMade number) = codes "ok f" ++ decimal number
reply_text (reply.PublisherMade number) = codes "ok p" ++ decimal number
reply_text (reply.SubscriberMade number) = codes "ok s" ++ decimal number
reply_text (reply.LoanMade number) = codes "ok l" ++ decimal number
reply_text reply.Done = codes "ok"
reply_text (reply.Delivered count) = codes "ok " ++ decimal count
reply_text reply.Blocked = codes "blocked"
reply_text (reply.Received sample values) =
    (codes "ok m" ++ decimal sample) ++ flat_map (λ value. codes " " ++ decimal value) (vec_items values)
reply_text reply.NothingWaits = codes "none"
reply_text (reply.Values values) = codes "ok" ++ flat_map (λ value. codes " " ++ decimal value) (vec_items values)
reply_text (reply.Sequence None) = codes "ok none"
reply_text (reply.Sequence (Some number)) = codes "ok " ++ decimal number
reply_text (reply.Has true) = codes "ok true"
reply_text (reply.Has false) = codes "ok false"
reply_text reply.Skipped = codes "skip"
reply_text (reply.Refused refusal) = codes "err " ++ refusal_text refusal
