-- What each command costs is paid: by the debt for copies, by strain, copies and input for moves.
use Rattle.std.proofs.Common.{◌≡◌, ℕ, ◌+◌, ◌-◌, ◌*◌, ◌<◌, ◌≤◌, true, false, cond, leb, length, refl, ap, arith}
use Rattle.std.proofs.lemmas.Bool.{ltb-true}
use Rattle.ecow_base.specs.Capacity.{MAX, fresh, room}
use Rattle.ecow_base.specs.Range.{items_in_range}
use Rattle.ecow_model.specs.Costs.{make_capacity, unshares, copies, capacity_after, moves, make_input, edit_input}
use Rattle.ecow_model.specs.Names.{strain_at}
use Rattle.ecow_model.specs.declared.vecs.VecMake.{VecMake}
use Rattle.ecow_model.specs.declared.vecs.VecMake.TheVariants.{New, WithCapacity, FromList, FromElem}
use Rattle.ecow_model.specs.declared.vecs.VecEdit.{VecEdit}
use Rattle.ecow_model.specs.declared.vecs.VecEdit.TheVariants.{Push, Pop, Insert, Remove, Truncate, Clear, Retain, Drain, Splice, Extend, Reserve, Write}
use Rattle.ecow_counted.proofs.Strains.{strain_le, strain_keep, le-fresh, fresh-le, strain_fresh, le-room, room-le, paid_by_room, paid_by_copy}
use Rattle.ecow_counted.proofs.Lengths.{LengthMade, LengthIs}

-- a list that is made fits in its block, and is paid
pub record IsPaidMade {T : Type 0} (how : VecMake T) (m : ℕ) : Type 0 where
  pub fits : m ≤ make_capacity how
  pub small : make_capacity how ≤ MAX
  pub moved : strain_at m (make_capacity how) ≤ 2 * make_input how

pub paid_made : {T : Type 0} (m : ℕ) (how : VecMake T) → LengthMade how m → IsPaidMade how m
paid_made m New ok = record { fits = omega arith; small = omega arith; moved = (let bound : strain_at m 0 ≤ 2 * m - 0 = strain_le m 0 in omega arith) }
paid_made m (WithCapacity asked) ok =
    record { fits = omega arith; small = ok.1; moved = (let bound : strain_at m asked ≤ 2 * m - asked = strain_le m asked in omega arith) }
paid_made m (FromList items) ok =
    let wide : length items ≤ fresh (length items) = le-fresh (length items) in
    let bound : strain_at m (fresh (length items)) ≤ length items = strain_fresh m (length items) (omega arith) in
    record { fits = omega arith; small = fresh-le (length items) (omega arith); moved = omega arith }
paid_made m (FromElem v k) ok = record { fits = omega arith; small = ok.1; moved = (let bound : strain_at m k ≤ 2 * m - k = strain_le m k in omega arith) }

-- by a sole name, whose list has n elements before and m after: the list fits, and the moves are paid
pub record IsPaidSole {T : Type 0} (edit : VecEdit T) (n m capacity : ℕ) : Type 0 where
  pub fits : m ≤ capacity_after edit false n capacity
  pub small : capacity_after edit false n capacity ≤ MAX
  pub moved : moves edit n capacity + strain_at m (capacity_after edit false n capacity) ≤ strain_at n capacity + 2 * edit_input edit

-- by a name that leaves a block to others
pub record IsPaidShared {T : Type 0} (edit : VecEdit T) (n m capacity : ℕ) : Type 0 where
  pub fits : m ≤ capacity_after edit true n capacity
  pub small : capacity_after edit true n capacity ≤ MAX
  pub copied : copies edit n ≤ n
  pub moved : strain_at m (capacity_after edit true n capacity) ≤ copies edit n + 2 * edit_input edit

module _ {T : Type 0} (n m capacity : ℕ) (within : n ≤ capacity) (small : capacity ≤ MAX) where
  -- a sole name whose block stays
  stays : (edit : VecEdit T) → m ≤ n → capacity_after edit false n capacity ≡ capacity → moves edit n capacity ≡ 0 → IsPaidSole edit n m capacity
  stays edit short same none =
      let less : strain_at m capacity ≤ strain_at n capacity = strain_keep m n capacity short in
      let at : strain_at m (capacity_after edit false n capacity) ≡ strain_at m capacity = ap (strain_at m) same in
      record { fits = omega arith; small = omega arith; moved = omega arith }

  -- a sole name into whose block k items go, where left of its own stay
  goes_in : (edit : VecEdit T) (left : ℕ) → left ≤ n → left + edit_input edit ≤ MAX → m ≤ left + edit_input edit
      → capacity_after edit false n capacity ≡ room left (edit_input edit) capacity
      → moves edit n capacity ≡ cond (leb (left + edit_input edit) capacity) 0 left → IsPaidSole edit n m capacity
  goes_in edit left part fit short same moved =
      let enough : left + edit_input edit ≤ room left (edit_input edit) capacity = le-room left (edit_input edit) capacity fit in
      let top : room left (edit_input edit) capacity ≤ MAX = room-le left (edit_input edit) capacity small in
      let paid : cond (leb (left + edit_input edit) capacity) 0 left + strain_at m (room left (edit_input edit) capacity)
      ≤ strain_at n capacity + 2 * edit_input edit = paid_by_room n m left (edit_input edit) capacity part within small short fit in
      record { fits = rw same (omega (arith, short, enough)); small = rw same top; moved = rw (moved, same) paid }

  pub paid_sole : (edit : VecEdit T) → LengthIs edit n m → IsPaidSole edit n m capacity
  paid_sole (Push v) ok = goes_in (Push v) n (omega arith) (omega arith) (omega arith) refl refl
  paid_sole Pop ok = stays Pop ok refl refl
  paid_sole (Insert i v) ok = goes_in (Insert i v) n (omega arith) (omega arith) (omega arith) refl refl
  paid_sole (Remove i) ok = stays (Remove i) ok refl refl
  paid_sole (Truncate t) ok = stays (Truncate t) ok.0 refl refl
  paid_sole Clear ok = stays Clear (omega arith) refl refl
  paid_sole (Retain marks) ok = stays (Retain marks) ok refl refl
  paid_sole (Drain bounds) ok = stays (Drain bounds) ok refl refl
  paid_sole (Splice bounds v) ok = goes_in (Splice bounds v) (n - items_in_range bounds n) (omega arith) (omega arith) (omega arith) refl refl
  paid_sole (Extend v) ok = goes_in (Extend v) n (omega arith) (omega arith) (omega arith) refl refl
  paid_sole (Reserve k) ok = goes_in (Reserve k) n (omega arith) ok.1 (omega arith) refl refl
  paid_sole (Write i v) ok = stays (Write i v) ok refl refl

  -- a name that leaves its block with t copied elements, all of its new list among them
  copied_out : (edit : VecEdit T) (t : ℕ) → copies edit n ≡ t → t ≤ n → m ≤ t → capacity_after edit true n capacity ≡ fresh t → IsPaidShared edit n m capacity
  copied_out edit t copied part short same =
      let bound : strain_at m (fresh t) ≤ t = strain_fresh m t short in
      let wide : t ≤ fresh t = le-fresh t in
      let top : fresh t ≤ MAX = fresh-le t (omega arith) in
      record { fits = rw same (omega (arith, short, wide)); small = rw same top; copied = omega arith; moved = rw (same, copied) (omega (arith, bound)) }

  -- a name that leaves its block for one with room for k items more
  copied_in : (edit : VecEdit T) (left wide : ℕ) → copies edit n ≡ n → left ≤ n → n ≤ wide → wide ≤ MAX
      → left + edit_input edit ≤ MAX → m ≤ left + edit_input edit
      → capacity_after edit true n capacity ≡ room left (edit_input edit) wide → IsPaidShared edit n m capacity
  copied_in edit left wide copied part enough top fit short same =
      let inside : left + edit_input edit ≤ room left (edit_input edit) wide = le-room left (edit_input edit) wide fit in
      let most : room left (edit_input edit) wide ≤ MAX = room-le left (edit_input edit) wide top in
      let paid : strain_at m (room left (edit_input edit) wide) ≤ n + 2 * edit_input edit =
      paid_by_copy n m left (edit_input edit) wide part enough short fit in
      record { fits = rw same (omega (arith, short, inside)); small = rw same most; copied = omega arith; moved = rw (same, copied) paid }

  pub paid_shared : (edit : VecEdit T) → LengthIs edit n m → unshares edit n ≡ true → IsPaidShared edit n m capacity
  paid_shared (Push v) ok leaves = copied_in (Push v) n capacity refl (omega arith) within small (omega arith) (omega arith) refl
  paid_shared Pop ok leaves = copied_out Pop n refl (omega arith) ok refl
  paid_shared (Insert i v) ok leaves = copied_in (Insert i v) n capacity refl (omega arith) within small (omega arith) (omega arith) refl
  paid_shared (Remove i) ok leaves = copied_out (Remove i) n refl (omega arith) ok refl
  paid_shared (Truncate t) ok leaves = copied_out (Truncate t) t refl (let lt : t < n = ltb-true t n leaves in omega arith) ok.1 refl
  paid_shared Clear ok leaves = copied_out Clear 0 refl (omega arith) (omega arith) refl
  paid_shared (Retain marks) ok leaves = copied_out (Retain marks) n refl (omega arith) ok refl
  paid_shared (Drain bounds) ok leaves = copied_out (Drain bounds) n refl (omega arith) ok refl
  paid_shared (Splice bounds v) ok leaves =
      copied_in (Splice bounds v) (n - items_in_range bounds n) (fresh n) refl (omega arith)
      (le-fresh n) (fresh-le n (omega arith)) (omega arith) (omega arith) refl
  paid_shared (Extend v) ok leaves = copied_in (Extend v) n capacity refl (omega arith) within small (omega arith) (omega arith) refl
  paid_shared (Reserve k) ok leaves = copied_in (Reserve k) n capacity refl (omega arith) within small ok.1 (omega arith) refl
  paid_shared (Write i v) ok leaves = copied_out (Write i v) n refl (omega arith) ok refl
