-- What a function of the parser has read.
use Rattle.std.specs.Prelude.{◌≡◌, ◌≤◌, List, length, Result, Ok, Err}
use Rattle.fd_expressions.specs.declared.stop.Stop.{Stop}
use Rattle.fd_expressions.specs.declared.stop.Stop.TheVariants.{Wrong, Memory}
use Rattle.fd_lexer.specs.declared.token.Token.{Token}
use Rattle.fd_grammar.specs.Machine.{State, run}

-- The old rest is a phrase and the new rest, or the new rest begins with the fault.
-- phrase k is the phrase and then k of its value; rest x k is k of the value x.
abbrev pub Reads : {X K : Type 0} → (K → State) → (X → K → State) → List Token → List Token → Result X Stop → Type 0
Reads {X} {K} phrase rest old new (Ok x) = (k : K) → run old (phrase k) ≡ run new (rest x k)
Reads {X} {K} phrase rest old new (Err Wrong) = (k : K) → run old (phrase k) ≡ Err new
Reads {X} {K} phrase rest old new (Err Memory) = Unit {0}

-- In a loop: the old rest is the state, and what is read until now leads to another one.
abbrev pub ReadsUntil : {K : Type 0} → (K → State) → (K → State) → List Token → List Token → Type 0
ReadsUntil {K} from to old now = record { shrinks : length now ≤ length old; reads : (k : K) → run old (from k) ≡ run now (to k) }
