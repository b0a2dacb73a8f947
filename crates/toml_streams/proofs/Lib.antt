pub mod FrontIsAppended
