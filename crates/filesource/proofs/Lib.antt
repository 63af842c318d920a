pub mod AskSteps
