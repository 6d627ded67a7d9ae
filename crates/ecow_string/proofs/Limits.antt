-- When a text stays inline.
use Rattle.std.proofs.Common.{◌≡◌, ℕ, ◌+◌, ◌<◌, ◌≤◌, Bool, true, false, rules}
use Rattle.ecow_base.specs.Inline.{inline_after, inline_for}

-- a text that was made for n bytes keeps its mode while it gets no more than these
pub keeps_mode : (limit n : ℕ) (inline : Bool) (len k : ℕ) → inline ≡ inline_for limit n → len + k ≤ n → inline_after limit inline len k ≡ inline_for limit n
keeps_mode limit n inline len k target fits = search rules

-- and is refused none of them where they fit inline
pub none_refused : (limit n : ℕ) (inline : Bool) (len k : ℕ) → inline ≡ inline_for limit n → len + k ≤ n → inline_after limit inline len k ≡ false → limit < n
none_refused limit n inline len k target fits refused = search rules

-- a text that was inline where it fits gets k bytes, and is inline where these fit too
pub stays : (limit : ℕ) (inline now : Bool) (len k total : ℕ) → now ≡ inline_after limit inline len 0
    → total ≡ len + k → inline_after limit now len k ≡ inline_after limit inline total 0
stays limit true now len k total e same = search rules
stays limit false now len k total e same = search rules

-- where the text is new and inline, it has more bytes than fit inline
pub spills : (limit len : ℕ) (inline : Bool) → inline ≡ true → inline_after limit inline len 0 ≡ false → limit < len
spills limit len inline new refused = search rules
