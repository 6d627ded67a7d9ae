use Rattle.std.proofs.Common.{refl}
use Rattle.ecow_string.proofs.Texts.{chars-take, AreUtf8-take, chars_of_nil}
use Rattle.ecow_string.proofs.string.SmallText.truncate.Goals as goal

pub invariant_of-self-2 : goal.invariant_of-self-2
invariant_of-self-2 g c =
    rw c.in_ok-truncate.ensures.bytes (AreUtf8-take _ c.args.target c.self.invariant (rw (← c.self.view_is) at c.requires))

pub returns-clause-chars : goal.returns-clause-chars
returns-clause-chars g c =
    rw (← c.self.view_is, c.in_ok-truncate.ensures.bytes) (chars-take _ c.args.target c.self.invariant (rw (← c.self.view_is) at c.requires))

pub returns-clause-keeps_none : goal.returns-clause-keeps_none
returns-clause-keeps_none g c = λ none. (refl, chars_of_nil _ (c.in_ok-truncate.ensures.keeps_none none).1)
