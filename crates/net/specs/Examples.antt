-- The papers' examples of nets, for the examples of every crate.
use Rattle.std.specs.Prelude.{set}
use Rattle.obligations.specs.Limits.{activities}
use Rattle.net.specs.Limits.{places}
use Rattle.net.specs.Lists.{blank}
use Rattle.net.specs.Sides.{uncounted_sides}
use Rattle.net.specs.declared.Net.{Net}

-- net F (01, "Marked examples on net F, and slips"; 000, Fig. 1(d)): start 0, end 3; outputs of 0 and inputs of 3: 2, 4, 6; inputs of
-- 1 and 2: 1; outputs of 1 and 2: 8
unfoldable pub F : Net
F = record {
  start = 0;
  end = 3;
  inputs =
      uncounted_sides (set (set (set (set (set (blank places) 16 1) 32 1) 48 2) 49 4) 50 6)
      (set (set (set (set (blank activities) 0 1) 1 1) 2 1) 3 3);
  outputs =
      uncounted_sides (set (set (set (set (set (blank places) 0 2) 1 4) 2 6) 16 8) 32 8)
      (set (set (set (set (blank activities) 0 3) 1 1) 2 1) 3 1);
}

-- 003's net of the trip (Fig. 1), with activities a to e as 0 to 4: outputs of 0 and inputs of 4: 2, 4, 10, 14; inputs of 1 and 3: 1;
-- inputs of 2: 1, 3; outputs of 1: 16, 20; outputs of 2 and 3: 16
unfoldable pub travel : Net
travel = record {
  start = 0;
  end = 4;
  inputs =
      uncounted_sides (set (set (set (set (set (set (set (set (blank places) 16 1) 32 1) 33 3) 48 1) 64 2) 65 4) 66 10) 67 14)
      (set (set (set (set (set (blank activities) 0 1) 1 1) 2 2) 3 1) 4 4);
  outputs =
      uncounted_sides (set (set (set (set (set (set (set (set (blank places) 0 2) 1 4) 2 10) 3 14) 16 16) 17 20) 32 16) 48 16)
      (set (set (set (set (set (blank activities) 0 4) 1 2) 2 1) 3 1) 4 1);
}
