-- What follows by computing.
use Rattle.std.proofs.Common.{refl}
use Rattle.core_rules.specs.Examples.{TreesCiteWhatTheyRead}

pub trees_cite_what_they_read : TreesCiteWhatTheyRead
trees_cite_what_they_read = record {
  pipe = refl;
  halves = refl;
  sixteenths = refl;
  empty = refl;
  balance = refl;
  entering = refl;
  equal = refl;
  cut = refl;
  cut_back = refl;
  reach = refl;
  reach_back = refl;
  drop = refl;
  drop_back = refl;
  falls_little = refl;
  falls_much = refl;
}
