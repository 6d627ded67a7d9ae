-- What the index of names finds, and how it grows.
use Rattle.std.proofs.Common.{arith, rules, ◌≡◌, ◌≢◌, ◌≤◌, ◌<◌, ◌+◌, ◌-◌, ◌^◌, ◌==◌, ℕ, zero, suc, Bool, true, false, cond, not, nat_lt, List, [], ◌∷◌, ◌++◌, length, get_or, map, take, drop, slice_get, None, Some, inl, inr, refl, sym, ap, subst, ◌∙◌}
use Rattle.std.specs.Prelude.{Option, Result, slice_set, ◌||◌}
use Rattle.std.specs.declared.result.Result.TheVariants.{Ok, Err}
use Rattle.std.specs.Option.{option_map}
use Rattle.std.specs.Str.{encode_utf8_all}
use Rattle.std.proofs.lemmas.Option.{get_or_from_slice_get, none-some, same_Some, slice_get_cases, slice_get-get_or, slice_get_within}
use Rattle.std.specs.Prelude.{position, remove}
use Rattle.std.specs.List.{refill}
use Rattle.std.specs.List.{position_or_len}
use Rattle.std.proofs.lemmas.List.Sums.{position_or_len_is}
use Rattle.ecow_nested.specs.declared.fields.Field.{Field}
use Rattle.std.proofs.lemmas.List.{get_or-set_other, get_or-set_same, get_or-take, length-map, length-set, length-take, length-take-le, map-append, map-set, take-map, drop-map, set-append_left, take-set, take_more_set}
use Rattle.std.proofs.Math.Seq.{map-set_same, take-append_seam, take-set-lt}
use Rattle.ecow_list.proofs.Places.{get_set}
use Rattle.std.proofs.lemmas.Slice.Eq.{bytes_eq-Decides}
use Rattle.std.specs.Prelude.{◌⊎◌}
use Rattle.ecow_nested.specs.declared.fields.Entry.{Entry}
use Rattle.ecow_nested.specs.Index.{IsFoundFrom, NotesGaps, is_again, is_dropped, Node, node_of, nodes_in, slots_in, bares_in, bare, bears, gaps_from, gaps_in, with_again, with_link, link_of, linked, turns, stop, way, end_of, place_of, Ascends, Leads, IsIndexed}

-- other nodes have the names and the links that these have, and may have further ones
pub record Keeps (others : List Node) (at : ℕ) (node : Node) : Type 0 where
  pub other : Node
  pub there : slice_get others at ≡ Some other
  pub same : other.name ≡ node.name
  pub links : (right : Bool) → link_of right node ≢ 0 → link_of right other ≡ link_of right node
  pub again : node.again ≡ true → other.again ≡ true

module _ (nodes others : List Node)
    (keeps : (at : ℕ) (node : Node) → slice_get nodes at ≡ Some node → Keeps others at node)
    (name : List ℕ) where
  -- a way that came to a place comes to it among the other nodes
  pub still : (steps depth at place : ℕ) → way nodes name steps depth at ≡ Some (Ok place)
      → way others name (suc steps) depth at ≡ Some (Ok place)
  still zero depth at place e = absurd (none-some _ e)
  still (suc steps) depth at place e =
      elim (slice_get nodes at) as (λ o. slice_get nodes at ≡ o
      → stop name (turns name depth) at (λ next. way nodes name steps (depth + 1) next) o ≡ Some (Ok place)
      → way others name (suc (suc steps)) depth at ≡ Some (Ok place)) [
        | None ↦ λ is e. absurd (none-some _ e)
        | Some node ↦ λ is e.
            let k = keeps at node is in
            search (rules, k.there, k.same, k.links (turns name depth), e, still steps (depth + 1) (link_of (turns name depth) node) place)
      ] refl e

  -- a way that ended comes to a node of the name that its end links among the others
  pub goes_on : (last place : ℕ) (right : Bool) (new : Node)
      → ((node : Node) → slice_get nodes last ≡ Some node → link_of right node ≡ 0
      → (other : Node) × (slice_get others last ≡ Some other) × (other.name ≡ node.name) × (link_of right other ≡ place))
      → 0 < place → slice_get others place ≡ Some new → bears name new ≡ true
      → (steps depth at : ℕ) → way nodes name steps depth at ≡ Some (Err (last, right))
      → way others name (suc steps) depth at ≡ Some (Ok place)
  goes_on last place right new links some there has zero depth at e = absurd (none-some _ e)
  goes_on last place right new links some there has (suc steps) depth at e =
      elim (slice_get nodes at) as (λ o. slice_get nodes at ≡ o
      → stop name (turns name depth) at (λ next. way nodes name steps (depth + 1) next) o ≡ Some (Err (last, right))
      → way others name (suc (suc steps)) depth at ≡ Some (Ok place)) [
        | None ↦ λ is e. absurd (none-some _ e)
        | Some node ↦ λ is e.
            let k = keeps at node is in
            let rest = goes_on last place right new links some there has steps (depth + 1) (link_of (turns name depth) node) in
            elim (bears name node) as (λ b. bears name node ≡ b → way others name (suc (suc steps)) depth at ≡ Some (Ok place)) [
              | true ↦ λ same. search (rules, same, e)
              | false ↦ λ apart.
                  elim (link_of (turns name depth) node == 0) as (λ b. (link_of (turns name depth) node == 0) ≡ b → way others name (suc (suc steps)) depth at ≡ Some (Ok place)) [
                    | true ↦ λ ends. search (rules, apart, ends, e, links node, is, k.there, k.same, some, there, has)
                    | false ↦ λ on. search (rules, apart, on, e, rest, k.there, k.same, k.links (turns name depth))
                  ] refl
            ] refl
      ] refl e

module _ (nodes : List Node) (name : List ℕ) where
  -- a way comes to a node of the name
  pub comes : (steps depth at place : ℕ) → way nodes name steps depth at ≡ Some (Ok place)
      → (node : Node) × (slice_get nodes place ≡ Some node) × (bears name node ≡ true)
  comes zero depth at place e = absurd (none-some _ e)
  comes (suc steps) depth at place e =
      elim (slice_get nodes at) as (λ o. slice_get nodes at ≡ o
      → stop name (turns name depth) at (λ next. way nodes name steps (depth + 1) next) o ≡ Some (Ok place)
      → (node : Node) × (slice_get nodes place ≡ Some node) × (bears name node ≡ true)) [
        | None ↦ λ is e. absurd (none-some _ e)
        | Some node ↦ λ is e.
            elim (bears name node) as (λ b. bears name node ≡ b
            → (node : Node) × (slice_get nodes place ≡ Some node) × (bears name node ≡ true)) [
              | true ↦ λ same.
                  let here : at ≡ place = search (rules, same, e) in
                  (node, search (rules, here, is), same)
              | false ↦ λ apart.
                  let on : way nodes name steps (depth + 1) (link_of (turns name depth) node) ≡ Some (Ok place) = search (rules, apart, e) in
                  comes steps (depth + 1) (link_of (turns name depth) node) place on
            ] refl
      ] refl e

  -- a way ends at a node with no link on that side
  pub ends : (steps depth at last : ℕ) (right : Bool)
      → way nodes name steps depth at ≡ Some (Err (last, right))
      → (node : Node) × (slice_get nodes last ≡ Some node) × (link_of right node ≡ 0)
  ends zero depth at last right e = absurd (none-some _ e)
  ends (suc steps) depth at last right e =
      elim (slice_get nodes at) as (λ o. slice_get nodes at ≡ o
      → stop name (turns name depth) at (λ next. way nodes name steps (depth + 1) next) o ≡ Some (Err (last, right))
      → (node : Node) × (slice_get nodes last ≡ Some node) × (link_of right node ≡ 0)) [
        | None ↦ λ is e. absurd (none-some _ e)
        | Some node ↦ λ is e.
            elim (bears name node) as (λ b. bears name node ≡ b
            → (node : Node) × (slice_get nodes last ≡ Some node) × (link_of right node ≡ 0)) [
              | true ↦ λ same. absurd (search (rules, same, e))
              | false ↦ λ apart.
                  elim (link_of (turns name depth) node == 0) as (λ b. (link_of (turns name depth) node == 0) ≡ b
                  → (node : Node) × (slice_get nodes last ≡ Some node) × (link_of right node ≡ 0)) [
                    | true ↦ λ none. (node, search (rules, apart, none, e, is), search (rules, apart, none, e, is))
                    | false ↦ λ on.
                        let rest : way nodes name steps (depth + 1) (link_of (turns name depth) node) ≡ Some (Err (last, right)) = search (rules, apart, on, e) in
                        ends steps (depth + 1) (link_of (turns name depth) node) last right rest
                  ] refl
            ] refl
      ] refl e

module _ {X : Type 0} where
  pub get_before : (xs ys : List X) (i : ℕ) (x : X) → slice_get xs i ≡ Some x
      → slice_get (xs ++ ys) i ≡ Some x
  get_before [] ys i x e = absurd (none-some x e)
  get_before (y ∷ xs) ys zero x e = e
  get_before (y ∷ xs) ys (suc i) x e = get_before xs ys i x e

  pub get_last : (xs : List X) (y : X) → slice_get (xs ++ y ∷ []) (length xs) ≡ Some y
  get_last [] y = refl
  get_last (x ∷ xs) y = get_last xs y

  pub got_in : (xs : List X) (y : X) (i : ℕ) (x : X) → slice_get (xs ++ y ∷ []) i ≡ Some x
      → (slice_get xs i ≡ Some x) ⊎ ((i ≡ length xs) × (x ≡ y))
  got_in [] y zero x e = inr (refl, sym (same_Some y x e))
  got_in [] y (suc i) x e = absurd (none-some x e)
  got_in (z ∷ xs) y zero x e = inl e
  got_in (z ∷ xs) y (suc i) x e =
      elim (got_in xs y i x e) [
        | inl before ↦ inl before
        | inr last ↦ inr (ap suc last.0, last.1)
      ]

  pub got_set : (xs : List X) (j : ℕ) (y : X) (i : ℕ) (x : X)
      → slice_get (slice_set xs j y) i ≡ Some x
      → (slice_get xs i ≡ Some x) ⊎ ((i ≡ j) × (x ≡ y))
  got_set [] j y i x e = inl e
  got_set (z ∷ xs) zero y zero x e = inr (refl, sym (same_Some y x e))
  got_set (z ∷ xs) zero y (suc i) x e = inl e
  got_set (z ∷ xs) (suc j) y zero x e = inl e
  got_set (z ∷ xs) (suc j) y (suc i) x e =
      elim (got_set xs j y i x e) [
        | inl before ↦ inl before
        | inr here ↦ inr (ap suc here.0, here.1)
      ]

abbrev IsBare : Node → Type 0
IsBare node = (right : Bool) → link_of right node ≡ 0

-- where the first nodes are as they were, but for one that has a further link or mark
keeps_grown : (nodes : List Node) (last : ℕ) (node other new : Node)
    → slice_get nodes last ≡ Some node
    → other.name ≡ node.name
    → ((right : Bool) → link_of right node ≢ 0 → link_of right other ≡ link_of right node)
    → (node.again ≡ true → other.again ≡ true)
    → (at : ℕ) (x : Node) → slice_get nodes at ≡ Some x
    → Keeps (slice_set nodes last other ++ new ∷ []) at x
keeps_grown [] last node other new there same links again at x is = absurd (none-some x is)
keeps_grown (n ∷ nodes) zero node other new there same links again zero x is =
    let here : node ≡ x = sym (same_Some n node there) ∙ same_Some n x is in
    record {
      other = other;
      there = refl;
      same = same ∙ ap (λ (y : Node). y.name) here;
      links = subst (λ y. (right : Bool) → link_of right y ≢ 0 → link_of right other ≡ link_of right y) here links;
      again = subst (λ (y : Node). y.again ≡ true → other.again ≡ true) here again;
    }
keeps_grown (n ∷ nodes) zero node other new there same links again (suc at) x is =
    record { other = x; there = get_before nodes (new ∷ []) at x is; same = refl; links = λ right some. refl; again = λ has. has }
keeps_grown (n ∷ nodes) (suc last) node other new there same links again zero x is =
    record { other = x; there = is; same = refl; links = λ right some. refl; again = λ has. has }
keeps_grown (n ∷ nodes) (suc last) node other new there same links again (suc at) x is =
    let k = keeps_grown nodes last node other new there same links again at x is in
    record { other = k.other; there = k.there; same = k.same; links = k.links; again = k.again }

keeps_added : (nodes : List Node) (new : Node) (at : ℕ) (x : Node) → slice_get nodes at ≡ Some x
    → Keeps (nodes ++ new ∷ []) at x
keeps_added nodes new at x is = record { other = x; there = get_before nodes (new ∷ []) at x is; same = refl; links = λ right some. refl; again = λ has. has }

-- a place below the number of nodes is that of a way that came to it
led : (nodes : List Node) (name : List ℕ) (i : ℕ) → place_of nodes name ≤ i → i < length nodes
    → (place : ℕ) × (end_of nodes name ≡ Some (Ok place)) × (place ≤ i)
led nodes name i low within =
    elim (end_of nodes name) as (λ o. end_of nodes name ≡ o → (place : ℕ) × (end_of nodes name ≡ Some (Ok place)) × (place ≤ i)) [
      | None ↦ λ is. absurd (search (rules, arith, is, low, within))
      | Some stop ↦ elim stop as (λ o. end_of nodes name ≡ Some o → (place : ℕ) × (end_of nodes name ≡ Some (Ok place)) × (place ≤ i)) [
        | Ok place ↦ λ is. (place, is, search (rules, is, low))
        | Err side ↦ λ is. absurd (search (rules, arith, is, low, within))
      ]
    ] refl

one_longer : (nodes : List Node) (new : Node) → length (nodes ++ new ∷ []) ≡ suc (length nodes)
one_longer [] new = refl
one_longer (n ∷ nodes) new = ap suc (one_longer nodes new)

one_or_other : (side right : Bool) (place : ℕ) (node : Node)
    → (link_of side (linked right place node) ≡ place) ⊎ (link_of side (linked right place node) ≡ link_of side node)
one_or_other true true place node = inl refl
one_or_other true false place node = inr refl
one_or_other false true place node = inr refl
one_or_other false false place node = inl refl

keeps_links : (right : Bool) (place : ℕ) (node : Node) → link_of right node ≡ 0
    → (side : Bool) → link_of side node ≢ 0
    → link_of side (linked right place node) ≡ link_of side node
keeps_links true place node none true some = absurd (some none)
keeps_links true place node none false some = refl
keeps_links false place node none true some = refl
keeps_links false place node none false some = absurd (some none)

link_made : (right : Bool) (place : ℕ) (node : Node)
    → link_of right (linked right place node) ≡ place
link_made true place node = refl
link_made false place node = refl

same_name : (right : Bool) (place : ℕ) (node : Node) → (linked right place node).name ≡ node.name
same_name true place node = refl
same_name false place node = refl

same_again : (right : Bool) (place : ℕ) (node : Node)
    → (linked right place node).again ≡ node.again
same_again true place node = refl
same_again false place node = refl

-- a node whose name comes again
abbrev marked : Node → Node
marked node = record { name = node.name; left = node.left; right = node.right; again = true }

side_kept : (side : Bool) (node : Node) → link_of side (marked node) ≡ link_of side node
side_kept true node = refl
side_kept false node = refl

-- a node without a name has none
nameless : (node : Node) (name : List ℕ) → node.name ≡ None → bears name node ≡ true → ⊥
nameless node name none has =
    let no : bears name node ≡ false = ap (λ o. bears name (record { name = o; left = 0; right = 0; again = false })) none in
    absurd (search (rules, no, has))

-- a node that has a name has no other
one_name : (node : Node) (name other : List ℕ) → bears name node ≡ true → bears other node ≡ true
    → name ≡ other
one_name node name other has too =
    elim (node.name) as (λ o. bears name (record { name = o; left = node.left; right = node.right; again = node.again }) ≡ true
    → bears other (record { name = o; left = node.left; right = node.right; again = node.again }) ≡ true → name ≡ other) [
      | None ↦ λ h i. absurd (search (rules, h))
      | Some text ↦ λ h i.
          let bytes = encode_utf8_all text.chars in
          sym ((bytes_eq-Decides bytes name).0 h) ∙ (bytes_eq-Decides bytes other).0 i
    ] has too

bears_same : (x y : Node) (name : List ℕ) → x.name ≡ y.name → bears name x ≡ true
    → bears name y ≡ true
bears_same x y name same has =
    ap (λ o. bears name (record { name = o; left = 0; right = 0; again = false })) (sym same) ∙ has

module _ (nodes others : List Node)
    (keeps : (at : ℕ) (x : Node) → slice_get nodes at ≡ Some x → Keeps others at x) where
  -- a mark is kept
  again_kept : (at : ℕ) → is_again (slice_get nodes at) ≡ true
      → is_again (slice_get others at) ≡ true
  again_kept at marks =
      elim (slice_get nodes at) as (λ o. slice_get nodes at ≡ o → is_again o ≡ true → is_again (slice_get others at) ≡ true) [
        | None ↦ λ is h. absurd (search (rules, h))
        | Some node ↦ λ is h.
            let k = keeps at node is in
            ap is_again k.there ∙ k.again h
      ] refl marks

module _ (nodes : List Node) (new : Node) (bare : IsBare new) (indexed : IsIndexed nodes) where
  -- what other nodes lead to, of which each has the name of an old one or is the new one
  leads_grown : (others : List Node) → length others ≡ suc (length nodes)
      → ((at : ℕ) (x : Node) → slice_get nodes at ≡ Some x → Keeps others at x)
      → ((i : ℕ) (x : Node) → slice_get others i ≡ Some x
      → ((y : Node) × (slice_get nodes i ≡ Some y) × (x.name ≡ y.name)) ⊎ ((i ≡ length nodes) × (x ≡ new)))
      → ((name : List ℕ) → bears name new ≡ true → (place : ℕ) × (end_of others name ≡ Some (Ok place))
      × (place ≤ length nodes) × (place < length nodes → is_again (slice_get others place) ≡ true))
      → Leads others
  leads_grown others longer keeps each there i x name is has =
      elim (each i x is) [
        | inl old ↦
            let y = old.0 in
            let first = indexed.1 i y name old.1 (bears_same x y name old.2 has) in
            let l = led nodes name i first.0 (slice_get_within nodes i y old.1) in
            let on = still nodes others keeps name (length nodes) 0 0 l.0 l.1 in
            let comes : end_of others name ≡ Some (Ok l.0) = search (rules, longer, on) in
            let was : place_of nodes name ≡ l.0 = search (rules, l.1) in
            let now : place_of others name ≡ l.0 = search (rules, comes) in (
              omega (arith, now, l.2),
              λ less.
                  let marks = first.1 (omega (arith, was, now, less)) in
                  ap (λ n. is_again (slice_get others n)) now ∙ again_kept nodes others keeps l.0 (ap (λ n. is_again (slice_get nodes n)) (sym was) ∙ marks),
            )
        | inr last ↦
            let t = there name (ap (bears name) (sym last.1) ∙ has) in
            let now : place_of others name ≡ t.0 = search (rules, t.1) in (
              omega (arith, now, t.2, last.0),
              λ less. ap (λ n. is_again (slice_get others n)) now ∙ t.3 (omega (arith, now, less, last.0)),
            )
      ]

  -- a new node is linked where the way of its name ended
  module _ (its : List ℕ) (has : bears its new ≡ true) (last : ℕ) (right : Bool) (node : Node)
      (there : slice_get nodes last ≡ Some node)
      (ended : end_of nodes its ≡ Some (Err (last, right))) where
    abbrev other : Node
    other = linked right (length nodes) node

    abbrev others : List Node
    others = slice_set nodes last other ++ new ∷ []

    none : link_of right node ≡ 0
    none =
        let e = ends nodes its (length nodes) 0 0 last right ended in
        let same : node ≡ e.0 = same_Some node e.0 (sym there ∙ e.1) in
        search (rules, same, e.2)

    longer : length others ≡ suc (length nodes)
    longer = one_longer (slice_set nodes last other) new ∙ ap suc (length-set nodes last other)

    keeps : (at : ℕ) (x : Node) → slice_get nodes at ≡ Some x → Keeps others at x
    keeps = keeps_grown nodes last node other new there (same_name right (length nodes) node) (keeps_links right (length nodes) node none) (λ h. same_again right (length nodes) node ∙ h)

    new_there : slice_get others (length nodes) ≡ Some new
    new_there = ap (slice_get others) (sym (length-set nodes last other)) ∙ get_last (slice_set nodes last other) new

    each : (i : ℕ) (x : Node) → slice_get others i ≡ Some x
        → ((y : Node) × (slice_get nodes i ≡ Some y) × (x.name ≡ y.name)) ⊎ ((i ≡ length nodes) × (x ≡ new))
    each i x is =
        elim (got_in (slice_set nodes last other) new i x is) [
          | inl before ↦ elim (got_set nodes last other i x before) [
            | inl old ↦ inl (x, old, refl)
            | inr here ↦ inl (node, ap (slice_get nodes) here.0 ∙ there, ap (λ (y : Node). y.name) here.1 ∙ same_name right (length nodes) node)
          ]
          | inr behind ↦ inr (behind.0 ∙ length-set nodes last other, behind.1)
        ]

    ascends : Ascends others
    ascends side i x is some =
        elim (got_in (slice_set nodes last other) new i x is) [
          | inl before ↦ elim (got_set nodes last other i x before) [
            | inl old ↦
                let a = indexed.0 side i x old some in
                (a.0, omega (arith, a.1, longer))
            | inr here ↦
                let within = slice_get_within nodes last node there in
                elim (one_or_other side right (length nodes) node) [
                  | inl linked ↦
                      let to : link_of side x ≡ length nodes = ap (link_of side) here.1 ∙ linked in
                      (omega (arith, to, here.0, within), omega (arith, to, longer))
                  | inr old ↦
                      let to : link_of side x ≡ link_of side node = ap (link_of side) here.1 ∙ old in
                      let a = indexed.0 side last node there (omega (arith, to, some)) in
                      (omega (arith, to, here.0, a.0), omega (arith, to, longer, a.1))
                ]
          ]
          | inr behind ↦
              let bare_one : link_of side x ≡ 0 = ap (link_of side) behind.1 ∙ bare side in
              absurd (omega (arith, bare_one, some))
        ]

    comes_there : (name : List ℕ) → bears name new ≡ true → (place : ℕ) × (end_of others name ≡ Some (Ok place))
        × (place ≤ length nodes) × (place < length nodes → is_again (slice_get others place) ≡ true)
    comes_there name too =
        let within = slice_get_within nodes last node there in
        let one = one_name new its name has too in
        let found = goes_on nodes others keeps its last (length nodes) right new
        (λ x is no_link. (
          other,
          (get_before (slice_set nodes last other) (new ∷ []) last other (get_set nodes last other within)),
          same_name right (length nodes) node ∙ ap (λ (y : Node). y.name) (same_Some node x (sym there ∙ is)),
          link_made right (length nodes) node,
        ))
        (omega (arith, within)) new_there has
        (length nodes) 0 0 ended in
        let came : end_of others its ≡ Some (Ok (length nodes)) = search (rules, longer, found) in
        (length nodes, subst (λ n. end_of others n ≡ Some (Ok (length nodes))) one came, omega arith, λ less. absurd (omega (arith, less)))

    pub grown_linked : IsIndexed others
    grown_linked = (ascends, leads_grown others longer keeps each comes_there)

  -- a node whose name is there already needs no link, and the first one of the name is marked
  module _ (its : List ℕ) (has : bears its new ≡ true) (place : ℕ) (node : Node)
      (there : slice_get nodes place ≡ Some node) (came : end_of nodes its ≡ Some (Ok place)) where
    abbrev repeated : List Node
    repeated = slice_set nodes place (marked node) ++ new ∷ []

    its_longer : length repeated ≡ suc (length nodes)
    its_longer = one_longer (slice_set nodes place (marked node)) new ∙ ap suc (length-set nodes place (marked node))

    its_keeps : (at : ℕ) (x : Node) → slice_get nodes at ≡ Some x → Keeps repeated at x
    its_keeps = keeps_grown nodes place node (marked node) new there refl (λ right some. side_kept right node) (λ h. refl)

    its_each : (i : ℕ) (x : Node) → slice_get repeated i ≡ Some x
        → ((y : Node) × (slice_get nodes i ≡ Some y) × (x.name ≡ y.name)) ⊎ ((i ≡ length nodes) × (x ≡ new))
    its_each i x is =
        elim (got_in (slice_set nodes place (marked node)) new i x is) [
          | inl before ↦ elim (got_set nodes place (marked node) i x before) [
            | inl old ↦ inl (x, old, refl)
            | inr here ↦ inl (node, ap (slice_get nodes) here.0 ∙ there, ap (λ (y : Node). y.name) here.1)
          ]
          | inr behind ↦ inr (behind.0 ∙ length-set nodes place (marked node), behind.1)
        ]

    its_ascends : Ascends repeated
    its_ascends side i x is some =
        elim (got_in (slice_set nodes place (marked node)) new i x is) [
          | inl before ↦ elim (got_set nodes place (marked node) i x before) [
            | inl old ↦
                let a = indexed.0 side i x old some in
                (a.0, omega (arith, a.1, its_longer))
            | inr here ↦
                let to : link_of side x ≡ link_of side node = ap (link_of side) here.1 ∙ side_kept side node in
                let a = indexed.0 side place node there (omega (arith, to, some)) in
                (omega (arith, to, here.0, a.0), omega (arith, to, its_longer, a.1))
          ]
          | inr behind ↦
              let bare_one : link_of side x ≡ 0 = ap (link_of side) behind.1 ∙ bare side in
              absurd (omega (arith, bare_one, some))
        ]

    its_comes : (name : List ℕ) → bears name new ≡ true → (p : ℕ) × (end_of repeated name ≡ Some (Ok p))
        × (p ≤ length nodes) × (p < length nodes → is_again (slice_get repeated p) ≡ true)
    its_comes name too =
        let one = one_name new its name has too in
        let within = slice_get_within nodes place node there in
        let on = still nodes repeated its_keeps its (length nodes) 0 0 place came in
        let now : end_of repeated its ≡ Some (Ok place) = search (rules, its_longer, on) in
        let at = get_before (slice_set nodes place (marked node)) (new ∷ []) place (marked node) (get_set nodes place (marked node) within) in
        (place, subst (λ n. end_of repeated n ≡ Some (Ok place)) one now, omega (arith, within), λ less. ap is_again at)

    pub grown_again : IsIndexed repeated
    grown_again = (its_ascends, leads_grown repeated its_longer its_keeps its_each its_comes)

  -- a gap needs no link
  pub grown_gap : new.name ≡ None → IsIndexed (nodes ++ new ∷ [])
  grown_gap none = (
    λ side i x is some. elim (got_in nodes new i x is) [
      | inl old ↦
          let a = indexed.0 side i x old some in
          (a.0, omega (arith, a.1, one_longer nodes new))
      | inr behind ↦
          let bare_one : link_of side x ≡ 0 = ap (link_of side) behind.1 ∙ bare side in
          absurd (omega (arith, bare_one, some))
    ],
    leads_grown (nodes ++ new ∷ []) (one_longer nodes new) (keeps_added nodes new)
        (λ i x is. elim (got_in nodes new i x is) [ inl old ↦ inl (x, old, refl) | inr behind ↦ inr behind ])
        (λ name has. absurd (nameless new name none has)),
  )

-- one node without links
indexed_one : (node : Node) → IsBare node → IsIndexed (node ∷ [])
indexed_one node bare = (
  λ side i x is some. elim (got_in [] node i x is) [
    | inl old ↦ absurd (none-some x old)
    | inr here ↦
        let bare_one : link_of side x ≡ 0 = ap (link_of side) here.1 ∙ bare side in
        absurd (omega (arith, bare_one, some))
  ],
  λ i x name is has. elim (got_in [] node i x is) [
    | inl old ↦ absurd (none-some x old)
    | inr here ↦
        let bears_it : bears name node ≡ true = ap (bears name) (sym here.1) ∙ has in
        let first : place_of (node ∷ []) name ≡ 0 = search (rules, bears_it) in
        (omega (arith, first), λ less. absurd (omega (arith, less, here.0)))
  ],
)

-- one step of a way
pub step : (nodes : List Node) (name : List ℕ) (at depth : ℕ) (node : Node)
    → slice_get nodes at ≡ Some node → depth < length nodes
    → way nodes name (length nodes - depth) depth at
    ≡ stop name (turns name depth) at (λ next. way nodes name (length nodes - (depth + 1)) (depth + 1) next) (Some node)
step nodes name at depth node there within =
    let one : length nodes - depth ≡ suc (length nodes - (depth + 1)) = omega (arith, within) in
    ap (λ steps. way nodes name steps depth at) one ∙ ap (stop name (turns name depth) at (λ next. way nodes name (length nodes - (depth + 1)) (depth + 1) next)) there

module _ {T : Type 0} where
  pub nodes_get : (entries : List (Entry T)) (i : ℕ) (e : Entry T) → slice_get entries i ≡ Some e
      → slice_get (nodes_in entries) i ≡ Some (node_of e)
  nodes_get [] i e is = absurd (none-some e is)
  nodes_get (x ∷ xs) zero e is = ap (λ (y : Entry T). Some (node_of y)) (same_Some x e is)
  nodes_get (x ∷ xs) (suc i) e is = nodes_get xs i e is

  pub nodes_length : (entries : List (Entry T)) → length (nodes_in entries) ≡ length entries
  nodes_length entries = length-map entries node_of

pub below : {X : Type 0} (at count : ℕ) (xs : List X) → at < length (take count xs) → at < count
below at count xs within = omega (arith, within, length-take count xs)

linked_node : {T : Type 0} (right : Bool) (place : ℕ) (x : Entry T)
    → node_of (with_link right place x) ≡ linked right place (node_of x)
linked_node true place x = refl
linked_node false place x = refl

pub linked_bare : {T : Type 0} (right : Bool) (place : ℕ) (x : Entry T)
    → bare (with_link right place x) ≡ bare x
linked_bare true place x = refl
linked_bare false place x = refl

-- an entry without links, b, is put in behind those that have an index
module _ {T : Type 0} (es : List (Entry T)) (count : ℕ) (d b : Entry T)
    (is : b ≡ bare (get_or es count d)) (within : count < length es) where
  abbrev cleared : List (Entry T)
  cleared = slice_set es count b

  abbrev before : List Node
  before = nodes_in (take count es)

  pub bares_cleared : bares_in cleared ≡ bares_in es
  bares_cleared = map-set_same (λ x. bare x) es count b d (ap (λ (x : Entry T). bare x) is)

  more : nodes_in (take (count + 1) cleared) ≡ before ++ node_of b ∷ []
  more = ap nodes_in (take_more_set es count b within) ∙ map-append node_of (take count es) (b ∷ [])

  its_length : length before ≡ count
  its_length = length-map (take count es) node_of ∙ length-take-le count es (omega (arith, within))

  is_bare : IsBare (node_of b)
  is_bare true = ap (λ (x : Entry T). x.right) is
  is_bare false = ap (λ (x : Entry T). x.left) is

  its_slot : (s : Entry T) → (get_or cleared count s).field ≡ b.field
  its_slot s = ap (λ (x : Entry T). x.field) (get_or-set_same es count b s within)

  pub its_name : (s : Entry T) (field : Field T) (name : List ℕ)
      → (get_or cleared count s).field ≡ Some field → name ≡ encode_utf8_all field.name.chars
      → bears name (node_of b) ≡ true
  its_name s field name some named =
      let slot : b.field ≡ Some field = sym (its_slot s) ∙ some in
      ap (λ (o : Option (Field T)). bears name (record { name = option_map (λ f. f.name) o; left = 0; right = 0; again = false })) slot
      ∙ (bytes_eq-Decides (encode_utf8_all field.name.chars) name).1 (sym named)

  pub no_name : (s : Entry T) → (get_or cleared count s).field ≡ None → (node_of b).name ≡ None
  no_name s none = ap (option_map (λ f. f.name)) (sym (its_slot s) ∙ none)

  pub sought : (name : List ℕ) (r : Result ℕ (ℕ × Bool))
      → end_of (nodes_in (take count cleared)) name ≡ Some r → end_of before name ≡ Some r
  sought name r ended = ap (λ xs. end_of (nodes_in xs) name) (sym (take-set es count b)) ∙ ended

  module _ (indexed : IsIndexed before) where
    pub first_included : count ≡ 0 → IsIndexed (nodes_in (take (count + 1) cleared))
    first_included none =
        let empty : before ≡ [] = ap (λ n. nodes_in (take n es)) none in
        subst IsIndexed (sym (more ∙ ap (λ ns. ns ++ node_of b ∷ []) empty)) (indexed_one (node_of b) is_bare)

    pub gap_included : (node_of b).name ≡ None → IsIndexed (nodes_in (take (count + 1) cleared))
    gap_included none = subst IsIndexed (sym more) (grown_gap before (node_of b) is_bare indexed none)

    module _ (at : ℕ) (e y : Entry T) (low : at < count) where
      abbrev joined : List (Entry T)
      joined = slice_set cleared at y

      abbrev x : Entry T
      x = get_or cleared at e

      pub bares_joined : bare y ≡ bare x → bares_in joined ≡ bares_in es
      bares_joined same = map-set_same (λ z. bare z) cleared at y e same ∙ bares_cleared

      joined_nodes : nodes_in (take (count + 1) joined) ≡ slice_set before at (node_of y) ++ node_of b ∷ []
      joined_nodes =
          ap nodes_in (take-set-lt (count + 1) cleared at y (omega (arith, low)))
          ∙ map-set node_of (take (count + 1) cleared) at y
          ∙ ap (λ ns. slice_set ns at (node_of y)) more
          ∙ set-append_left before (node_of b ∷ []) at (node_of y) (omega (arith, its_length, low))

      x_there : slice_get before at ≡ Some (node_of x)
      x_there =
          let cut : get_or (take count es) at e ≡ x =
          get_or-take count es at e low ∙ sym (get_or-set_other es count at b e (λ same. absurd (omega (arith, same, low)))) in
          nodes_get (take count es) at x
          (slice_get-get_or (take count es) at e (omega (arith, length-take-le count es (omega (arith, within)), low)) ∙ ap Some cut)

      module _ (name : List ℕ) (has : bears name (node_of b) ≡ true) where
        pub again_included : y ≡ with_again x → end_of before name ≡ Some (Ok at)
            → IsIndexed (nodes_in (take (count + 1) joined))
        again_included is came =
            let grown = grown_again before (node_of b) is_bare indexed name has at (node_of x) x_there came in
            subst IsIndexed (sym (joined_nodes ∙ ap (λ (z : Entry T). slice_set before at (node_of z) ++ node_of b ∷ []) is)) grown

        pub joined_included : (right : Bool) → y ≡ with_link right count x
            → end_of before name ≡ Some (Err (at, right))
            → IsIndexed (nodes_in (take (count + 1) joined))
        joined_included right is ended =
            let as_node : node_of y ≡ linked right count (node_of x) = ap node_of is ∙ linked_node right count x in
            let grown = grown_linked before (node_of b) is_bare indexed name has at right (node_of x) x_there ended in
            subst IsIndexed (sym (joined_nodes ∙ ap (λ n. slice_set before at n ++ node_of b ∷ []) as_node))
            (subst (λ n. IsIndexed (slice_set before at (linked right n (node_of x)) ++ node_of b ∷ [])) its_length grown)

slots_bare : {T : Type 0} (es : List (Entry T)) → slots_in es ≡ slots_in (bares_in es)
slots_bare [] = refl
slots_bare (e ∷ es) = ap (λ os. e.field ∷ os) (slots_bare es)

gaps_bare : {T : Type 0} (es : List (Entry T)) → gaps_in es ≡ gaps_in (bares_in es)
gaps_bare [] = refl
gaps_bare (e ∷ es) = refl

module _ {T : Type 0} where
  -- entries that are the same but for the index hold the same
  pub slots_same : (es ds : List (Entry T)) → bares_in es ≡ bares_in ds
      → slots_in es ≡ slots_in ds
  slots_same es ds same = slots_bare es ∙ ap slots_in same ∙ sym (slots_bare ds)

  pub gaps_same : (es ds : List (Entry T)) → bares_in es ≡ bares_in ds → gaps_in es ≡ gaps_in ds
  gaps_same es ds same = gaps_bare es ∙ ap gaps_in same ∙ sym (gaps_bare ds)

  pub noted_same : (es ds : List (Entry T)) → bares_in es ≡ bares_in ds → NotesGaps ds
      → NotesGaps es
  noted_same es ds same noted =
      gaps_same es ds same ∙ noted ∙ ap (gaps_from 0) (sym (slots_same es ds same))

  pub slot_there : (es : List (Entry T)) (i : ℕ) (e : Entry T) → slice_get es i ≡ Some e
      → slice_get (slots_in es) i ≡ Some e.field
  slot_there [] i e is = absurd (none-some e is)
  slot_there (x ∷ xs) zero e is = ap (λ (y : Entry T). Some y.field) (same_Some x e is)
  slot_there (x ∷ xs) (suc i) e is = slot_there xs i e is

  pub slots_set : (es : List (Entry T)) (i : ℕ) (y : Entry T)
      → slots_in (slice_set es i y) ≡ slice_set (slots_in es) i y.field
  slots_set es i y = map-set (λ e. e.field) es i y

  pub slots_removed : (es : List (Entry T)) (i : ℕ)
      → slots_in (remove es i) ≡ remove (slots_in es) i
  slots_removed es i =
      map-append (λ e. e.field) (take i es) (drop (suc i) es)
      ∙ (λ k. sym (take-map (λ (e : Entry T). e.field) i es) k ++ sym (drop-map (λ (e : Entry T). e.field) (suc i) es) k)

-- as many elements in the place of others
pub refilled : {X : Type 0} (xs ys : List X) → length ys ≡ length xs → refill (length xs) xs ys ≡ ys
refilled xs ys same =
    let all : refill (length xs) xs ys ≡ refill (length ys) xs ys = ap (λ n. refill n xs ys) (sym same) in
    all ∙ take-append_seam ys (drop (length ys) xs)

-- where the way of a name comes to is the first place of the name
module _ {T : Type 0} (es : List (Entry T)) (name : List ℕ)
    (indexed : IsIndexed (nodes_in es)) where
  abbrev has_it : Entry T → Bool
  has_it e = bears name (node_of e)

  not_before : (i k : ℕ) (d : Entry T) → place_of (nodes_in es) name ≡ i → i ≤ length es → k < i
      → has_it (get_or es k d) ≡ false
  not_before i k d place low before =
      elim (slice_get_cases es k).1 [
        | inl read ↦
            let e = read.0 in
            let got : get_or es k d ≡ e = get_or_from_slice_get es k e d read.2 in
            elim (has_it e) as (λ b. has_it e ≡ b → has_it (get_or es k d) ≡ false) [
              | true ↦ λ has.
                  let led = indexed.1 k (node_of e) name (nodes_get es k e read.2) has in
                  absurd (omega (arith, led.0, place, before))
              | false ↦ λ has. ap has_it got ∙ has
            ] refl
        | inr past ↦ absurd (omega (arith, past.0, before, low))
      ]

  pub position_found : (at : ℕ) → end_of (nodes_in es) name ≡ Some (Ok at)
      → Some at ≡ position has_it es
  position_found at came =
      let c = comes (nodes_in es) name (length (nodes_in es)) 0 0 at came in
      let within : at < length es = omega (arith, slice_get_within (nodes_in es) at c.0 c.1, nodes_length es) in
      let place : place_of (nodes_in es) name ≡ at = search (rules, came) in
      elim (slice_get_cases es at).1 [
        | inl read ↦
            let e = read.0 in
            let node : c.0 ≡ node_of e = same_Some c.0 (node_of e) (sym c.1 ∙ nodes_get es at e read.2) in
            let got : get_or es at e ≡ e = get_or_from_slice_get es at e e read.2 in
            let has : has_it (get_or es at e) ≡ true = ap has_it got ∙ ap (bears name) (sym node) ∙ c.2 in
            let first : position_or_len has_it es ≡ at =
            position_or_len_is has_it es at e (omega (arith, within))
            (λ k before. not_before at k e place (omega (arith, within)) before) (λ less. has) in
            search (rules, arith, first, within)
        | inr past ↦ absurd (omega (arith, past.0, within))
      ]

  pub position_missing : (end : ℕ × Bool) → end_of (nodes_in es) name ≡ Some (Err end)
      → None ≡ position has_it es
  position_missing end ended =
      elim (slice_get_cases es 0).1 [
        | inl read ↦
            let place : place_of (nodes_in es) name ≡ length es = search (rules, ended, nodes_length es) in
            let first : position_or_len has_it es ≡ length es =
            position_or_len_is has_it es (length es) read.0 (omega arith)
            (λ k before. not_before (length es) k read.0 place (omega arith) before) (λ less. absurd (omega (arith, less))) in
            search (rules, arith, first)
        | inr past ↦ search (rules, arith, past.0)
      ]

module _ {X Y : Type 0} (f : X → Y) (p : Y → Bool) where
  pub first_along : (xs : List X) → position_or_len (λ x. p (f x)) xs ≡ position_or_len p (map f xs)
  first_along [] = refl
  first_along (x ∷ xs) = ap (λ n. cond (not (p (f x))) (1 + n) 0) (first_along xs)

  pub position_along : (xs : List X) → position (λ x. p (f x)) xs ≡ position p (map f xs)
  position_along xs = λ i. cond (nat_lt (first_along xs i) (sym (length-map xs f) i)) (Some (first_along xs i)) None

pub dropped_set : {T : Type 0} (es : List (Entry T)) (i : ℕ) (x y : Entry T) → slice_get es i ≡ Some x
    → y.left ≡ x.left
    → is_dropped (slice_set es i y) ≡ is_dropped es
dropped_set [] i x y there same = refl
dropped_set (e ∷ es) zero x y there same = ap (λ n. nat_lt (2 ^ 63) n) (same ∙ ap (λ (z : Entry _). z.left) (sym (same_Some e x there)))
dropped_set (e ∷ es) (suc i) x y there same = refl

-- another entry at a place, whose name and links are the same
module _ {T : Type 0} (es : List (Entry T)) (i : ℕ) (x y : Entry T)
    (there : slice_get es i ≡ Some x) (same : node_of y ≡ node_of x) where
  nodes_kept : nodes_in (slice_set es i y) ≡ nodes_in es
  nodes_kept = map-set_same node_of es i y x (same ∙ ap node_of (sym (get_or_from_slice_get es i x x there)))

  dropped_kept : is_dropped (slice_set es i y) ≡ is_dropped es
  dropped_kept = dropped_set es i x y there (ap (λ (n : Node). n.left) same)

  pub found_kept : IsFoundFrom 16 es → IsFoundFrom 16 (slice_set es i y)
  found_kept found many kept =
      subst IsIndexed (sym nodes_kept) (found (subst (λ n. 16 ≤ n) (length-set es i y) many) (sym dropped_kept ∙ kept))

-- where an index isn't lacking there is one
pub index_there : {T : Type 0} (es : List (Entry T)) (lacks : Bool)
    → lacks ≡ (nat_lt (length es) 16 || is_dropped es) → lacks ≡ false → IsFoundFrom 16 es
    → IsIndexed (nodes_in es)
index_there es lacks is has found = found (search (rules, arith, is, has)) (search (rules, is, has))

-- at another place nothing changes
get_where : {X : Type 0} (xs : List X) (j : ℕ) (y : X) (i : ℕ)
    → (slice_get (slice_set xs j y) i ≡ slice_get xs i) ⊎ (i ≡ j)
get_where [] j y i = inl refl
get_where (z ∷ xs) zero y zero = inr refl
get_where (z ∷ xs) zero y (suc i) = inl refl
get_where (z ∷ xs) (suc j) y zero = inl refl
get_where (z ∷ xs) (suc j) y (suc i) =
    elim (get_where xs j y i) [ inl same ↦ inl same | inr here ↦ inr (ap suc here) ]

before_other : (place i s : ℕ) → place ≤ i → place ≡ s → i ≢ s → place < i
before_other place i s low is apart = omega (arith, low, is, apart)

-- a node whose name comes no more loses it
module _ (nodes : List Node) (s : ℕ) (x y : Node) (there : slice_get nodes s ≡ Some x)
    (once : x.again ≡ false) (none : y.name ≡ None)
    (links : (side : Bool) → link_of side y ≡ link_of side x) (indexed : IsIndexed nodes) where
  abbrev gapped : List Node
  gapped = slice_set nodes s y

  gap_there : slice_get gapped s ≡ Some y
  gap_there = get_set nodes s y (slice_get_within nodes s x there)

  no_stop : (name : List ℕ) → bears name y ≡ false
  no_stop name = ap (λ o. bears name (record { name = o; left = 0; right = 0; again = false })) none

  -- a way that came to another place still comes to it
  unstopped : (name : List ℕ) (steps depth at place : ℕ) → place ≢ s
      → way nodes name steps depth at ≡ Some (Ok place)
      → way gapped name steps depth at ≡ Some (Ok place)
  unstopped name zero depth at place apart e = absurd (none-some _ e)
  unstopped name (suc steps) depth at place apart e =
      elim (get_where nodes s y at) [
        | inl same ↦ elim (slice_get nodes at) as (λ o. slice_get nodes at ≡ o
            → stop name (turns name depth) at (λ next. way nodes name steps (depth + 1) next) o ≡ Some (Ok place)
            → way gapped name (suc steps) depth at ≡ Some (Ok place)) [
              | None ↦ λ is e. absurd (none-some _ e)
              | Some node ↦ λ is e.
                  let rest = unstopped name steps (depth + 1) (link_of (turns name depth) node) place apart in
                  let read : slice_get gapped at ≡ Some node = same ∙ is in
                  elim (bears name node) as (λ b. bears name node ≡ b → way gapped name (suc steps) depth at ≡ Some (Ok place)) [
                    | true ↦ λ has. search (rules, read, has, e)
                    | false ↦ λ has.
                        elim (link_of (turns name depth) node == 0) as (λ b. (link_of (turns name depth) node == 0) ≡ b → way gapped name (suc steps) depth at ≡ Some (Ok place)) [
                          | true ↦ λ ends. absurd (search (rules, has, ends, e))
                          | false ↦ λ on. search (rules, read, has, on, e, rest)
                        ] refl
                  ] refl
            ] refl e
        | inr here ↦
            let is : slice_get nodes at ≡ Some x = ap (slice_get nodes) here ∙ there in
            let read : slice_get gapped at ≡ Some y = ap (slice_get gapped) here ∙ gap_there in
            let rest = unstopped name steps (depth + 1) (link_of (turns name depth) x) place apart in
            elim (bears name x) as (λ b. bears name x ≡ b → way gapped name (suc steps) depth at ≡ Some (Ok place)) [
              | true ↦ λ has.
                  let stopped : at ≡ place = search (rules, is, has, e) in
                  absurd (apart (sym stopped ∙ here))
              | false ↦ λ has.
                  elim (link_of (turns name depth) x == 0) as (λ b. (link_of (turns name depth) x == 0) ≡ b → way gapped name (suc steps) depth at ≡ Some (Ok place)) [
                    | true ↦ λ ends. absurd (search (rules, is, has, ends, e))
                    | false ↦ λ on. search (rules, is, read, has, no_stop name, links (turns name depth), on, e, rest)
                  ] refl
            ] refl
      ]

  gap_ascends : Ascends gapped
  gap_ascends side i z is some =
      let as_long = length-set nodes s y in
      elim (got_set nodes s y i z is) [
        | inl old ↦
            let a = indexed.0 side i z old some in
            (a.0, omega (arith, a.1, as_long))
        | inr here ↦
            let to : link_of side z ≡ link_of side x = ap (link_of side) here.1 ∙ links side in
            let a = indexed.0 side s x there (omega (arith, to, some)) in
            (omega (arith, to, here.0, a.0), omega (arith, to, as_long, a.1))
      ]

  gap_leads : Leads gapped
  gap_leads i z name is has =
      elim (got_set nodes s y i z is) [
        | inr here ↦ absurd (nameless z name (ap (λ (n : Node). n.name) here.1 ∙ none) has)
        | inl old ↦
            let first = indexed.1 i z name old has in
            let l = led nodes name i first.0 (slice_get_within nodes i z old) in
            let was : place_of nodes name ≡ l.0 = search (rules, l.1) in
            let not_here : i ≢ s = λ here.
            let same : y ≡ z = same_Some y z (sym gap_there ∙ ap (slice_get gapped) (sym here) ∙ is) in
            nameless z name (ap (λ (n : Node). n.name) (sym same) ∙ none) has in
            let apart : l.0 ≢ s = λ here.
            let marks = first.1 (before_other (place_of nodes name) i s first.0 (was ∙ here) not_here) in
            let no : is_again (slice_get nodes (place_of nodes name)) ≡ false = ap (λ n. is_again (slice_get nodes n)) (was ∙ here) ∙ ap is_again there ∙ once in
            absurd (search (rules, marks, no)) in
            let came : end_of gapped name ≡ Some (Ok l.0) = ap (λ n. way gapped name n 0 0) (length-set nodes s y) ∙ unstopped name (length nodes) 0 0 l.0 apart l.1 in
            let now : place_of gapped name ≡ l.0 = search (rules, came) in (
              omega (arith, now, l.2),
              λ less. elim (get_where nodes s y l.0) [
                | inl same ↦
                    ap (λ n. is_again (slice_get gapped n)) now ∙ ap is_again same
                    ∙ ap (λ n. is_again (slice_get nodes n)) (sym was) ∙ first.1 (omega (arith, was, now, less))
                | inr here ↦ absurd (apart here)
              ],
            )
      ]

  pub gap_indexed : IsIndexed gapped
  gap_indexed = (gap_ascends, gap_leads)

-- what the nodes say of the first entry
abbrev node_dropped : List Node → Bool
node_dropped [] = true
node_dropped (n ∷ ns) = nat_lt (2 ^ 63) n.left

dropped_by_nodes : {T : Type 0} (es : List (Entry T)) → is_dropped es ≡ node_dropped (nodes_in es)
dropped_by_nodes [] = refl
dropped_by_nodes (e ∷ es) = refl

pub found_same : {T : Type 0} (few : ℕ) (es ds : List (Entry T)) → nodes_in es ≡ nodes_in ds
    → IsFoundFrom few ds → IsFoundFrom few es
found_same few es ds same found many kept =
    let long : length es ≡ length ds = sym (nodes_length es) ∙ ap length same ∙ nodes_length ds in
    let dropped : is_dropped ds ≡ false = dropped_by_nodes ds ∙ ap node_dropped (sym same) ∙ sym (dropped_by_nodes es) ∙ kept in
    subst IsIndexed (sym same) (found (omega (arith, long, many)) dropped)
