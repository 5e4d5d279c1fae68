pub mod RoundCalls
