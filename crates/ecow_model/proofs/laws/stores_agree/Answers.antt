use Rattle.ecow_model.proofs.Agreement.{a_store_agrees, stores_agree}
use Rattle.ecow_model.proofs.laws.stores_agree.Goals as goal

pub returns : goal.returns
returns g c = record {
  answers =
      λ commands ours theirs old new names later at run counted some more.
      (stores_agree commands ours theirs old new names later at run counted some more).0;
  stores = a_store_agrees;
  contents =
      λ commands ours theirs old new names later at run counted some more.
      (stores_agree commands ours theirs old new names later at run counted some more).1;
}
