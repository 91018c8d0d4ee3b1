-- Rankings made of others: of a key, of a first test and a second, and of numbers from the least.
use Rattle.std.proofs.Common.{Bool, ltb, arith}
use Rattle.std.proofs.lemmas.Bool.Decides.{nat_tests}
use Rattle.queue.specs.Ranks.{Ranking, on, lex}

pub ranking_on : {K E : Type 0} (key : E → K) (over : K → K → Bool) → Ranking over → Ranking (on key over)
ranking_on key over o =
    record { one_way = λ x y. o.one_way (key x) (key y); chain = λ x y z. o.chain (key x) (key y) (key z) }

pub ranking_below : Ranking ltb
ranking_below =
    record { one_way = λ x y h. grind (arith, nat_tests); chain = λ x y z h k. grind (arith, nat_tests) }

pub ranking_lex : {E : Type 0} (first second : E → E → Bool) → Ranking first → Ranking second →
    Ranking (lex first second)
ranking_lex first second o p = record {
  one_way = λ x y h. grind (arith, nat_tests, o.one_way x y, o.one_way y x, p.one_way x y);
  chain = λ x y z h k. grind (arith, nat_tests, o.one_way, o.chain x y z, o.chain y z x, o.chain z x y, p.chain x y z);
}
