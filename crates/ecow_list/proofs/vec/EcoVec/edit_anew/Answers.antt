use Rattle.std.proofs.Common.{rules, inr}
use Rattle.ecow_list.proofs.Kept.{clones_equal}
use Rattle.ecow_list.proofs.vec.EcoVec.edit_anew.Goals as goal

-- the elements of a shared block were copied
pub returns-in-Ok : goal.returns-in-Ok
returns-in-Ok g c = record {
  edited = record {
    ok = λ equal. let same = clones_equal _ equal _ _ c.in-Ok.ensures.copies in search rules;
    kept = record {
      kept = c.in-Ok.fresh.items;
      is_kept = inr (search rules);
      same_length = search rules;
      edited = search rules;
    };
    unchanged = search rules;
    value_returned = search rules;
    capacity = search rules;
    memory = search rules;
  };
}
