-- Tokens that a writer adds one after another.
use Rattle.std.proofs.Common.{◌≡◌, List, [], ◌∷◌, ◌++◌, Result, Ok, Err, ap, ◌∙◌, append_assoc}
use Rattle.std.specs.Prelude.{OnOk}
use Rattle.json.specs.Token.{Token}
use Rattle.json.specs.Written.{Written, Writes}
use Rattle.iox_describe.specs.Writing.{Adds}

-- a token that was written was added
pub wrote : {E : Type 0} (r : Result (Unit {0}) E) (t : Token) (old new : Written) → Writes r old new t → OnOk r (Adds (t ∷ []) old new)
wrote (Ok v) t old new w = (w.room.0, w.ok)
wrote (Err e) t old new w = tt

-- tokens that were added, and then others, were added together
pub after : {E : Type 0} (r : Result (Unit {0}) E) (ts us : List Token) (old mid new : Written) → Adds ts old mid
    → OnOk r (Adds us mid new) → OnOk r (Adds (ts ++ us) old new)
after (Ok v) ts us old mid new first rest = (rest.0 ∙ first.0, rest.1 ∙ ap (λ s. s ++ us) first.1 ∙ append_assoc old.tokens ts us)
after (Err e) ts us old mid new first rest = tt
