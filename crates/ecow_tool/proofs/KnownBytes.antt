-- Bytes that a reader has left and a writer holds, where they are known.
use Rattle.std.proofs.Common.{◌≡◌, ℕ, List, [], ◌++◌, Option, Some, None, refl, sym, ap, ◌∙◌, append_assoc}
use Rattle.std.specs.Prelude.{IfSome}
use Rattle.std.specs.Io.KnownBytes.{Keeps, Appends, Consumes, IsAtEnd}
use Rattle.std.proofs.lemmas.List.{append-nil}
use Rattle.ecow_tool.specs.declared.program.End.{End}
use Rattle.ecow_tool.specs.Programs.{EndsReading}

-- bytes are read behind others
pub consumes_more : (old mid new : Option (List ℕ)) (xs ys : List ℕ) → Consumes old mid xs
    → Consumes mid new ys → Consumes old new (xs ++ ys)
consumes_more None mid new xs ys h k = tt
consumes_more (Some a) None new xs ys h k = absurd h
consumes_more (Some a) (Some b) None xs ys h k = absurd k
consumes_more (Some a) (Some b) (Some c) xs ys h k =
    h ∙ ap (λ bs. xs ++ bs) k ∙ sym (append_assoc xs ys c)

-- no byte is read
pub consumes_none : (old new : Option (List ℕ)) → Keeps old new → Consumes old new []
consumes_none None new h = tt
consumes_none (Some xs) None h = absurd h
consumes_none (Some xs) (Some ys) h = sym h

pub begins_reading : (known : Option (List ℕ)) → Consumes known known []
begins_reading None = tt
begins_reading (Some xs) = refl

-- all bytes are read
pub all_read : (old new : Option (List ℕ)) (xs : List ℕ) → Consumes old new xs → IsAtEnd new
    → IfSome old (λ bytes. xs ≡ bytes)
all_read None new xs h k = tt
all_read (Some a) None xs h k = absurd h
all_read (Some a) (Some c) xs h k = sym (h ∙ ap (λ bs. xs ++ bs) k ∙ append-nil xs)

-- an end after a part of the bytes
pub ends_behind : (old mid : Option (List ℕ)) (xs : List ℕ) (end : End) → Consumes old mid xs
    → IfSome mid (λ bytes. EndsReading (xs ++ bytes) end)
    → IfSome old (λ bytes. EndsReading bytes end)
ends_behind None mid xs end h k = tt
ends_behind (Some a) None xs end h k = absurd h
ends_behind (Some a) (Some b) xs end h k = rw h k

-- bytes are written behind others
pub appends_more : (old mid new : Option (List ℕ)) (xs ys : List ℕ) → Appends old mid xs
    → Appends mid new ys → Appends old new (xs ++ ys)
appends_more None mid new xs ys h k = tt
appends_more (Some a) None new xs ys h k = absurd h
appends_more (Some a) (Some b) None xs ys h k = absurd k
appends_more (Some a) (Some b) (Some c) xs ys h k = k ∙ ap (λ bs. bs ++ ys) h ∙ append_assoc a xs ys

-- no byte is written
pub appends_none : (old new : Option (List ℕ)) → Keeps old new → Appends old new []
appends_none None new h = tt
appends_none (Some xs) None h = absurd h
appends_none (Some xs) (Some ys) h = h ∙ sym (append-nil xs)

pub begins_writing : (known : Option (List ℕ)) → Appends known known []
begins_writing None = tt
begins_writing (Some xs) = sym (append-nil xs)
