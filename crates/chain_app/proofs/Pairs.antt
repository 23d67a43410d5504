-- The comparison that words ask for, and what its run keeps.
use Rattle.std.specs.Prelude.{◌≡◌, ℕ, ◌<◌, ◌≤◌, List, length, Option, Some, None, Ok, Err}
use Rattle.std.proofs.Common.{arith, sym, ◌∙◌, subst}
use Rattle.std.proofs.lemmas.Grind.{common_steps}
use Rattle.command_line.specs.declared.command.Command.{Command}
use Rattle.command_line.specs.declared.command.Command.TheVariants.{Agree, Recheck, RecheckDepth, Synth, LeastDepth, Improve, Equiv, Gen}
use Rattle.command_line.specs.declared.command.WordsError.{WordsError}
use Rattle.command_line.specs.CommandLine.{read, AsksFor, IsAskable}
use Rattle.net_theory.specs.Limits.{most_of_netlist}
use Rattle.frame_core.specs.Promise.{CommandPromise, ReportsError}
use Rattle.frame_core.specs.Run.{Run}
use Rattle.cmd_equiv.specs.WithReport.{with_task}
use Rattle.chain_app.specs.Pair.{KeepsPair, IsBudgetOf, budget_in, first_too_long, no_comparison}
use Rattle.chain_app.proofs.Ends.{asked, not_asked}

some_same : (x y : Command) → Some x ≡ Some y → x ≡ y
some_same x y e = cc

-- words ask for one command
one : (words : List (List ℕ)) (a b : Command) → AsksFor words a → AsksFor words b → a ≡ b
one words a b is_a is_b = some_same a b (sym is_a ∙ is_b)

in_command : (words : List (List ℕ)) (c : Command) → AsksFor words c → IsAskable c → IsBudgetOf words (budget_in c)
in_command words Agree asks can = λ b other. let same = one words Agree (Equiv b) asks other in absurd cc
in_command words Recheck asks can = λ b other. let same = one words Recheck (Equiv b) asks other in absurd cc
in_command words RecheckDepth asks can = λ b other. let same = one words RecheckDepth (Equiv b) asks other in absurd cc
in_command words (Synth s) asks can = λ b other. let same = one words (Synth s) (Equiv b) asks other in absurd cc
in_command words (LeastDepth s) asks can = λ b other. let same = one words (LeastDepth s) (Equiv b) asks other in absurd cc
in_command words (Improve f s) asks can = λ b other. let same = one words (Improve f s) (Equiv b) asks other in absurd cc
in_command words (Equiv n) asks can = (asks, can)
in_command words (Gen n d) asks can = λ b other. let same = one words (Gen n d) (Equiv b) asks other in absurd cc

pub budget_read : (words : List (List ℕ)) (c : Command) (o : Option ℕ) → Ok c ≡ read words → IsAskable c → o ≡ budget_in c → IsBudgetOf words o
budget_read words c o is can same = subst (IsBudgetOf words) (sym same) (in_command words c (asked words c is) can)

pub none_read : (words : List (List ℕ)) (e : WordsError) → Err e ≡ read words → IsBudgetOf words None
none_read words e is = λ b asks. not_asked words e is (Equiv b) asks

pub ruleset budgets = (common_steps, budget_read, none_read)

-- ---- the run

equiv_same : (a b : ℕ) → Equiv a ≡ Equiv b → a ≡ b
equiv_same a b e = cc

pub pair_refused : (first : List ℕ) (r : Run) → IsBudgetOf r.words None → ReportsError r no_comparison → KeepsPair first r
pair_refused first r none reported = record {
  compares = λ b asks within. absurd (none b asks);
  too_long = λ b asks long. absurd (none b asks);
  usage = λ nothing. reported;
}

pub pair_too_long : (first : List ℕ) (r : Run) (budget : ℕ) → IsBudgetOf r.words (Some budget) → most_of_netlist < length first → ReportsError r first_too_long → KeepsPair first r
pair_too_long first r budget asks long reported = record {
  compares = λ b other within. absurd (omega (arith, long, within));
  too_long = λ b other beyond. reported;
  usage = λ nothing. absurd (nothing budget asks.0);
}

pub pair_compared : (first : List ℕ) (r : Run) (budget : ℕ) → IsBudgetOf r.words (Some budget) → length first ≤ most_of_netlist → CommandPromise (with_task budget first) r → KeepsPair first r
pair_compared first r budget asks within promise = record {
  compares = λ b other short.
      subst (λ (n : ℕ). CommandPromise (with_task n first) r) (equiv_same budget b (one r.words (Equiv budget) (Equiv b) asks.0 other)) promise;
  too_long = λ b other beyond. absurd (omega (arith, within, beyond));
  usage = λ nothing. absurd (nothing budget asks.0);
}
